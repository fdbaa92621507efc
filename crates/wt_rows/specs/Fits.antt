-- When a form fits an instance: what it names exists, and its rows have the columns that its head says.
use Rattle.std.specs.Prelude.{ℕ, ◌<◌, ◌≡◌, List, [], ◌∷◌, length}
use Rattle.wt_bag.specs.Bags.{Each}
use Rattle.wt_bag.specs.Choices.{At, Has}
use Rattle.wt_value.specs.Values.{Tuple}
use Rattle.wt_symbol.specs.declared.head.Part.{Part}
use Rattle.wt_symbol.specs.declared.head.PartCols.{PartCols}
use Rattle.wt_symbol.specs.declared.head.PartCols.TheVariants.{Whole, List as Listed}
use Rattle.wt_form.specs.declared.form.Expr.{Expr}
use Rattle.wt_form.specs.declared.form.Expr.TheVariants.{Of, Null as NullOf}
use Rattle.wt_form.specs.Trees.{Terms, no_terms, term_then, Ranges, no_ranges, range_then, FormRange, Rel, distinct_of, Conds, no_conds, cond_then, Cond, Pred, Join, is_in, not_in, Form}
use Rattle.wt_form.specs.Parts.{ranges_list}
use Rattle.wt_instance.specs.declared.instance.Instance.{Instance}
use Rattle.wt_instance.specs.Instances.{width, numbers}
use Rattle.wt_rows.specs.FormRows.{FormRow, label, part_values, terms_rows}

-- a list is one of the instance's
abbrev pub ColsExist : Instance → PartCols → Type 0
ColsExist I Whole = Unit {0}
ColsExist I (Listed a) = a < length I.lists

-- so are a part's leaf and list
abbrev pub PartExists : Instance → Part → Type 0
PartExists I h = (h.leaf < length I.tables) × ColsExist I h.cols

-- columns of a part whose own columns are the first ones: all of it stand on whole parts alone, and a list
-- has its numbers among those of the part's list
abbrev pub AreOf : Instance → PartCols → PartCols → Type 0
AreOf I Whole c = Unit {0}
AreOf I (Listed d) (Listed a) = Each (λ n. Has n (numbers I d)) (numbers I a)
AreOf I (Listed d) Whole = ⊥

-- a variable over the range has part i, and the columns are of that part
abbrev pub HasPart : Instance → FormRange → ℕ → PartCols → Type 0
HasPart I (Rel r) i c = i ≡ 0
HasPart I (distinct_of h ts) i c = At (λ part. AreOf I part.cols c) i h

-- an expression in a term with these ranges: its variable, part, leaf and list exist
abbrev pub ExprFits : Instance → Ranges → Expr → Type 0
ExprFits I rs (Of v i c) = At (λ range. HasPart I range i c) v (ranges_list rs) × ColsExist I c
ExprFits I rs (NullOf r c) = (r < length I.tables) × ColsExist I c

-- an expression that is compared has a list
abbrev pub HasList : PartCols → Type 0
HasList Whole = ⊥
HasList (Listed a) = Unit {0}

abbrev pub IsListed : Expr → Type 0
IsListed (Of v i c) = HasList c
IsListed (NullOf r c) = HasList c

-- one piece for each part, with a list where the part has one
abbrev pub IsPiece : PartCols → Expr → Type 0
IsPiece Whole x = Unit {0}
IsPiece (Listed a) x = IsListed x

abbrev pub Aligned : List Part → List Expr → Type 0
Aligned [] [] = Unit {0}
Aligned (h ∷ hs) (x ∷ ps) = IsPiece h.cols x × Aligned hs ps
Aligned [] (x ∷ ps) = ⊥
Aligned (h ∷ hs) [] = ⊥

-- the values of a piece: those of a whole part are as many as its leaf is wide; those of a list are read back
-- by their numbers, so they are as many as the list has and equal at equal numbers
abbrev pub ValuesFit : Instance → ℕ → PartCols → Tuple → Type 0
ValuesFit I r Whole vs = length vs ≡ width I r
ValuesFit I r (Listed a) vs = part_values I (Listed a) (label I (Listed a) vs) ≡ vs

abbrev pub RowFits : Instance → List Part → FormRow → Type 0
RowFits I [] [] = Unit {0}
RowFits I (h ∷ hs) (vs ∷ row) = ValuesFit I h.leaf h.cols vs × RowFits I hs row
RowFits I [] (vs ∷ row) = ⊥
RowFits I (h ∷ hs) [] = ⊥

-- the head's leaves and lists exist, and each row has its columns
abbrev pub RowsFit : Instance → List Part → List FormRow → Type 0
RowsFit I h rows = Each (PartExists I) h × Each (RowFits I h) rows

-- each term of a form with this head fits, nested forms with their rows too
abbrev mutual
  pub TermsFit : Instance → List Part → Terms → Type 0
  TermsFit I h no_terms = Unit {0}
  TermsFit I h (term_then rs cs ps ts) = (RangesFit I rs × CondsFit I rs cs × Aligned h ps × Each (ExprFits I rs) ps) × TermsFit I h ts

  pub RangesFit : Instance → Ranges → Type 0
  RangesFit I no_ranges = Unit {0}
  RangesFit I (range_then r rs) = RangeFits I r × RangesFit I rs

  pub RangeFits : Instance → FormRange → Type 0
  RangeFits I (Rel r) = r < length I.tables
  RangeFits I (distinct_of h ts) = RowsFit I h (terms_rows ts I) × TermsFit I h ts

  pub CondsFit : Instance → Ranges → Conds → Type 0
  CondsFit I rs no_conds = Unit {0}
  CondsFit I rs (cond_then c cs) = CondFits I rs c × CondsFit I rs cs

  pub CondFits : Instance → Ranges → Cond → Type 0
  CondFits I rs (Pred p x) = (p < length I.trues) × ExprFits I rs x
  CondFits I rs (Join x y) = (IsListed x × ExprFits I rs x) × (IsListed y × ExprFits I rs y)
  CondFits I rs (is_in x h ts) = (IsListed x × ExprFits I rs x) × (RowsFit I h (terms_rows ts I) × TermsFit I h ts)
  CondFits I rs (not_in x h ts) = (IsListed x × ExprFits I rs x) × (RowsFit I h (terms_rows ts I) × TermsFit I h ts)

-- the form fits, nested forms too
abbrev pub Fits : Instance → Form → Type 0
Fits I f = RowsFit I f.head (terms_rows f.terms I) × TermsFit I f.head f.terms
