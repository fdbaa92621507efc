-- Which number stands for a form in a table: the first place of its entry, in which what it has stands by
-- its own number.
use Rattle.std.specs.Prelude.{ℕ, List, [], ◌∷◌}
use Rattle.wt_symbol.specs.declared.head.Part.{Part}
use Rattle.wt_form.specs.declared.form.Expr.{Expr}
use Rattle.wt_form.specs.Trees.{Terms, no_terms, term_then, Ranges, no_ranges, range_then, FormRange, Rel, distinct_of, Conds, no_conds, cond_then, Cond, Pred, Join, is_in, not_in, Form}
use Rattle.wt_form_table.specs.declared.cell.Test.{Test}
use Rattle.wt_form_table.specs.declared.cell.Test.TheVariants as tests
use Rattle.wt_form_table.specs.declared.cell.Front.{Front}
use Rattle.wt_form_table.specs.declared.cell.Front.TheVariants as fronts
use Rattle.wt_form_table.specs.declared.cell.Entry.TheVariants as entries
use Rattle.wt_form_table.specs.Entries.{First, Tables, columns_of, value_of}

-- the list with this first element and those of a number after it
abbrev pub Then : Tables → ℕ → Front → ℕ → Type 0
Then T n x after = (first : ℕ) × First T.fronts first x × First T.entries n (entries.Then first after)

-- the list of conditions likewise
abbrev pub Tested : Tables → ℕ → Test → ℕ → Type 0
Tested T n x after = (first : ℕ) × First T.tests first x × First T.entries n (entries.Then first after)

abbrev pub IsHead : Tables → ℕ → List Part → Type 0
IsHead T n [] = First T.entries n entries.End
IsHead T n (p ∷ ps) = (after : ℕ) × IsHead T after ps × Then T n (fronts.Part p.leaf (columns_of p.cols)) after

abbrev pub IsPieces : Tables → ℕ → List Expr → Type 0
IsPieces T n [] = First T.entries n entries.End
IsPieces T n (x ∷ xs) = (after : ℕ) × (v : ℕ) × IsPieces T after xs × First T.values v (value_of x) × Then T n (fronts.Piece v) after

abbrev mutual
  pub IsTerms : Tables → ℕ → Terms → Type 0
  IsTerms T n no_terms = First T.entries n entries.End
  IsTerms T n (term_then rs cs ps ts) = (a : ℕ) × (b : ℕ) × (c : ℕ) × (after : ℕ) ×
      IsRanges T a rs × IsConds T b cs × IsPieces T c ps × IsTerms T after ts × First T.entries n (entries.Term a b c after)

  pub IsRanges : Tables → ℕ → Ranges → Type 0
  IsRanges T n no_ranges = First T.entries n entries.End
  IsRanges T n (range_then r rs) = (after : ℕ) × IsRanges T after rs × IsRange T n r after

  -- a range before those of a number
  pub IsRange : Tables → ℕ → FormRange → ℕ → Type 0
  IsRange T n (Rel r) after = Then T n (fronts.Leaf r) after
  IsRange T n (distinct_of head ts) after = (a : ℕ) × (b : ℕ) × (form : ℕ) × IsHead T a head × IsTerms T b ts × First T.entries form (entries.Form a b) × Then T n (fronts.Distinct form) after

  pub IsConds : Tables → ℕ → Conds → Type 0
  IsConds T n no_conds = First T.entries n entries.End
  IsConds T n (cond_then c cs) = (after : ℕ) × IsConds T after cs × IsCond T n c after

  -- a condition before those of a number
  pub IsCond : Tables → ℕ → Cond → ℕ → Type 0
  IsCond T n (Pred p x) after = (v : ℕ) × First T.values v (value_of x) × Tested T n (tests.Pred p v) after
  IsCond T n (Join x y) after = (v : ℕ) × (w : ℕ) × First T.values v (value_of x) × First T.values w (value_of y) × Tested T n (tests.Join v w) after
  IsCond T n (is_in x head ts) after = (v : ℕ) × (a : ℕ) × (b : ℕ) × (form : ℕ) × First T.values v (value_of x) × IsHead T a head × IsTerms T b ts × First T.entries form (entries.Form a b) × Tested T n (tests.In v form) after
  IsCond T n (not_in x head ts) after = (v : ℕ) × (a : ℕ) × (b : ℕ) × (form : ℕ) × First T.values v (value_of x) × IsHead T a head × IsTerms T b ts × First T.entries form (entries.Form a b) × Tested T n (tests.NotIn v form) after

abbrev pub IsForm : Tables → ℕ → Form → Type 0
IsForm T n f = (a : ℕ) × (b : ℕ) × IsHead T a f.head × IsTerms T b f.terms × First T.entries n (entries.Form a b)
