-- Elements of the lists inside a form that are seen by reference.
use Rattle.std.specs.Prelude.{ℕ, ◌≡◌, true, List}
use Rattle.std.specs.Borrow.{Bor}
use Rattle.wt_form.specs.Trees.{FormRange, Cond}
use Rattle.wt_form.specs.Parts.{ranges_list, conds_list}
use Rattle.wt_form.specs.Known.{Known}
use Rattle.wt_form.specs.Congruent.{RangesSame, CondsSame, pieces_same}
use Rattle.wt_form.specs.declared.form.Term.{Term as CodeTerm}
use Rattle.wt_form.specs.declared.form.FormRange.{FormRange as CodeRange}
use Rattle.wt_form.specs.declared.form.Cond.{Cond as CodeCond}
use Rattle.wt_form.specs.Views.{OneTerm, term_seen, range_seen, cond_seen}

-- what a reference to a term, a range or a condition shows
abbrev pub term_behind : Bor CodeTerm → OneTerm
term_behind r = term_seen r.now

abbrev pub range_behind : Bor CodeRange → FormRange
range_behind r = range_seen r.now

abbrev pub cond_behind : Bor CodeCond → Cond
cond_behind r = cond_seen r.now

-- some pairing of variables makes the two terms the same
abbrev pub TermIs : Known → OneTerm → OneTerm → Type 0
TermIs K t u = (ks : List ℕ) × RangesSame K ks t.ranges (ranges_list u.ranges)
    × CondsSame K ks t.conds (conds_list u.conds) × (pieces_same K ks t.pieces u.pieces ≡ true)
