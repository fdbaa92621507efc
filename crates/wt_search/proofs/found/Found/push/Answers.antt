use Rattle.std.proofs.Common.{◌≡◌, ◌<◌, ◌∷◌, ◌++◌, ◌+◌, [], length, arith, ap, sym, subst, ◌∙◌}
use Rattle.std.proofs.lemmas.List.{length-append}
use Rattle.indexmap.specs.IndexSet.{keys}
use Rattle.wt_bag.specs.Choices.{Has}
use Rattle.wt_form.specs.Views.{form_seen}
use Rattle.wt_form_table.specs.Entries.{tables_of}
use Rattle.wt_search.specs.Found.{forms_of}
use Rattle.wt_search.proofs.Growing.{numbered_few, grown_none}
use Rattle.wt_search.proofs.found.Found.push.Goals as goal

pub returns-then-is_among-clause-grown : goal.returns-then-is_among-clause-grown
returns-then-is_among-clause-grown c =
    grown_none (forms_of c.args.self.now) (λ g. g ≡ form_seen c.args.form.now) (λ g e. subst (λ z. Has z (forms_of c.args.self.now)) (sym e) (c.first_few.ensures (form_seen c.args.form.now) (c.is_among.ensures.0 c.if-is_among.true)))

pub returns-clause-numbered : goal.returns-clause-numbered
returns-clause-numbered c =
    let old : length c.args.self.now.forms.items < 8 = omega (arith, c.if-len-ge-FEW.false) in
    let one : length c.push.new.self.items ≡ length (c.args.self.now.forms.items ++ c.in_ok-copy.copy ∷ []) = ap length c.in_ok-push.ensures.items in
    let both : length (c.args.self.now.forms.items ++ c.in_ok-copy.copy ∷ []) ≡ length c.args.self.now.forms.items + 1 = length-append c.args.self.now.forms.items (c.in_ok-copy.copy ∷ []) in
    numbered_few form_seen (tables_of c.args.self.now.table) 8 c.args.self.now.forms.items c.push.new.self.items (keys c.args.self.now.numbers) (omega (arith, old)) (omega (arith, old, one, both)) c.requires.numbered
