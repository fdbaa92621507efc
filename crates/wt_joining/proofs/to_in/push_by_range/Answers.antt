use Rattle.std.proofs.Common.{List, map, refl, ◌∙◌}
use Rattle.wt_symbol.specs.declared.head.Part.{Part}
use Rattle.wt_form.specs.Trees.{Terms}
use Rattle.wt_form.specs.Joining.{Joined}
use Rattle.wt_form.specs.Views.{terms_seen}
use Rattle.wt_facts.specs.Facts.{known_of}
use Rattle.wt_congruent.specs.Refs.{cond_behind, range_behind}
use Rattle.wt_joining.proofs.Lists.{on_ok, told_some, told_none}
use Rattle.wt_joining.proofs.InLaws.{gained_in, absent_in}
use Rattle.wt_joining.proofs.to_in.push_by_range.Goals as goal

pub returns-in_ok-left-in-Some : goal.returns-in_ok-left-in-Some
returns-in_ok-left-in-Some c =
    on_ok c.push_in.result _ _
    (λ n. gained_in (known_of c.args.facts.now) c.args.nested range_behind c.args.ranges.now c.as_slice.result.now c.args.term.now.pieces c.args.v c.args.b (map cond_behind c.args.before.now) (map cond_behind c.args.after.now) c.args.e c.in-Some.form.head (terms_seen c.in-Some.form.terms) c.index-ranges-v.result (map terms_seen c.args.out.now.items) _
    n c.requires c.index-ranges-v.is (c.as_slice.ensures.value ∙ c.in_ok-left-in-Some.ensures) (told_some c.in_ok-found.found ((h : List Part) (ts : Terms) → Joined (known_of c.args.facts.now) c.args.nested (range_behind c.index-ranges-v.result) c.args.b h ts → ⊥) (λ f. Joined (known_of c.args.facts.now) c.args.nested (range_behind c.index-ranges-v.result) c.args.b f.head (terms_seen f.terms)) c.in-Some.form c.in_ok-found.ensures c.in-Some.is)) c.push_in.ensures

pub returns-in-None : goal.returns-in-None
returns-in-None c =
    absent_in (known_of c.args.facts.now) c.args.nested range_behind c.args.ranges.now c.args.term.now.pieces c.args.v c.args.b (map cond_behind c.args.before.now) (map cond_behind c.args.after.now) c.args.e c.index-ranges-v.result _ _ refl c.index-ranges-v.is (told_none c.in_ok-found.found ((h : List Part) (ts : Terms) → Joined (known_of c.args.facts.now) c.args.nested (range_behind c.index-ranges-v.result) c.args.b h ts → ⊥) (λ f. Joined (known_of c.args.facts.now) c.args.nested (range_behind c.index-ranges-v.result) c.args.b f.head (terms_seen f.terms)) c.in_ok-found.ensures c.in-None.is)
