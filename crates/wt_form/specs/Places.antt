-- Places in a term: a condition or a range with those around it.
use Rattle.std.specs.Prelude.{ℕ, ◌≡◌, List, [], ◌∷◌}
use Rattle.wt_symbol.specs.declared.head.PartCols.TheVariants.{List as Listed}
use Rattle.wt_form.specs.declared.form.Expr.TheVariants.{Of}
use Rattle.wt_form.specs.Trees.{Terms, Ranges, no_ranges, range_then, FormRange, Rel, Conds, no_conds, cond_then, Cond}
use Rattle.wt_form.specs.Parts.{one_term, ranges_append, conds_append}

-- each variable is paired with itself
abbrev pub itself : Ranges → List ℕ
itself no_ranges = []
itself (range_then r rs) = 0 ∷ itself rs

-- a condition of a term, with those around it
pub record CondAt (cs : Conds) (c : Cond) : Type 0 where
  pub before : Conds
  pub after : Conds
  pub is : cs ≡ conds_append before (cond_then c after)

-- the term's other conditions
abbrev pub others : {cs : Conds} {c : Cond} → CondAt cs c → Conds
others p = conds_append p.before p.after

-- the term's conditions with another one in its place
abbrev pub replaced : {cs : Conds} {c : Cond} → CondAt cs c → Cond → Conds
replaced p d = conds_append p.before (cond_then d p.after)

-- a range of a term, with those around it
pub record RangeAt (rs : Ranges) (r : FormRange) : Type 0 where
  pub before : Ranges
  pub after : Ranges
  pub is : rs ≡ ranges_append before (range_then r after)

-- the values of list b in the rows of leaf r
abbrev pub list_rows : ℕ → ℕ → Terms
list_rows r b = one_term (range_then (Rel r) no_ranges) no_conds (Of 0 0 (Listed b) ∷ [])
