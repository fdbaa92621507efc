use Rattle.std.proofs.Common.{◌≡◌, sym, subst, drop, ◌∷◌, [], nat_eq, eqb-true}
use Rattle.indexmap.specs.IndexSet.{keys}
use Rattle.wt_bag.specs.Choices.{Has}
use Rattle.wt_form.specs.Views.{form_seen}
use Rattle.wt_form_table.specs.Entries.{tables_of}
use Rattle.wt_search.specs.Found.{forms_of}
use Rattle.wt_search.proofs.Growing.{map_join, joined_behind, has_behind, numbered_new, numbered_old, inserted_new, inserted_old, is_there, grown_one, grown_none, not_true, not_false}
use Rattle.wt_search.proofs.found.Found.push_numbered.Goals as goal

pub returns-in_ok-push-clause-numbered : goal.returns-in_ok-push-clause-numbered
returns-in_ok-push-clause-numbered c =
    numbered_new (tables_of c.args.self.now.table) (tables_of c.intern.new.self) (form_seen c.args.form.now) (form_seen c.in_ok-copy.copy) c.in_ok-number.number (drop 8 (forms_of c.args.self.now)) _ (keys c.args.self.now.numbers) _ c.requires.numbered c.in_ok-number.ensures.more c.in_ok-number.ensures.is c.in_ok-copy.ensures
    (joined_behind form_seen 8 c.args.self.now.forms.items (c.in_ok-copy.copy ∷ []) c.push.new.self.items c.requires.behind c.in_ok-push.ensures.items) (inserted_new nat_eq c.in_ok-number.number (keys c.args.self.now.numbers) _ c.in_ok-insert.ensures.keys (not_true _ _ c.in_ok-insert.ensures.added c.if-branch.true))

pub returns-in_ok-push-clause-grown : goal.returns-in_ok-push-clause-grown
returns-in_ok-push-clause-grown c = grown_one (forms_of c.args.self.now) _ (form_seen c.args.form.now) (form_seen c.in_ok-copy.copy) (map_join form_seen c.args.self.now.forms.items (c.in_ok-copy.copy ∷ []) c.push.new.self.items c.in_ok-push.ensures.items) c.in_ok-copy.ensures

pub returns-else-branch-clause-numbered : goal.returns-else-branch-clause-numbered
returns-else-branch-clause-numbered c =
    numbered_old (tables_of c.args.self.now.table) (tables_of c.intern.new.self) (drop 8 (forms_of c.args.self.now)) (keys c.args.self.now.numbers) _ c.requires.numbered c.in_ok-number.ensures.more (inserted_old nat_eq c.in_ok-number.number (keys c.args.self.now.numbers) _ c.in_ok-insert.ensures.keys (not_false _ _ c.in_ok-insert.ensures.added c.if-branch.false))

pub returns-else-branch-clause-grown : goal.returns-else-branch-clause-grown
returns-else-branch-clause-grown c =
    grown_none (forms_of c.args.self.now) (λ g. g ≡ form_seen c.args.form.now)
    (λ g e. subst (λ z. Has z (forms_of c.args.self.now)) (sym e)
    (has_behind (form_seen c.args.form.now) 8 (forms_of c.args.self.now)
    (is_there nat_eq (λ m n y. eqb-true m n y) (tables_of c.args.self.now.table) (tables_of c.intern.new.self) (form_seen c.args.form.now) c.in_ok-number.number (drop 8 (forms_of c.args.self.now)) (keys c.args.self.now.numbers) c.requires.numbered c.in_ok-number.ensures.more c.in_ok-number.ensures.is (not_false _ _ c.in_ok-insert.ensures.added c.if-branch.false))))
