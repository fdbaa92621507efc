-- Instances: what they give each symbol of a pair.
use Rattle.std.specs.Prelude.{◌≡◌, ◌≢◌, ℕ, ◌<◌, Bool, List, [], length, slice_index_or}
use Rattle.wt_bag.specs.Bags.{among, Each}
use Rattle.wt_value.specs.Values.{Tuple, row_same}
use Rattle.wt_symbol.specs.Sides.{PairTree, leaves_of, lists_of, preds_of}
use Rattle.wt_instance.specs.declared.instance.Instance.{Instance}

-- how many columns a leaf has
abbrev pub width : Instance → ℕ → ℕ
width I r = slice_index_or I.widths r 0

-- the rows of a leaf
abbrev pub table : Instance → ℕ → List Tuple
table I r = slice_index_or I.tables r []

-- the column numbers of a list symbol
abbrev pub numbers : Instance → ℕ → List ℕ
numbers I a = slice_index_or I.lists a []

-- whether a predicate symbol is True on a row: the row is one of those that it has, NULL being the same as NULL
abbrev pub is_true : Instance → ℕ → Tuple → Bool
is_true I p row = among row_same (slice_index_or I.trues p []) row

-- a leaf's rows have its width
abbrev pub IsWide : Instance → ℕ → Type 0
IsWide I r = Each (λ row. length row ≡ width I r) (table I r)

-- a width and a list of rows for each leaf of the source, a list of column numbers for each list symbol, and a list of
-- rows for each predicate symbol
pub record HasParts (p : PairTree) (I : Instance) : Type 0 where
  pub widths : length I.widths ≡ length (leaves_of p.source)
  pub tables : length I.tables ≡ length (leaves_of p.source)
  pub lists : length I.lists ≡ length (lists_of p.source)
  pub trues : length I.trues ≡ length (preds_of p.source)

-- a pair's instance: rows have their leaf's width, and no list of column numbers is empty
pub record IsInstance (p : PairTree) (I : Instance) : Type 0 where
  pub parts : HasParts p I
  pub wide : (r : ℕ) → r < length I.tables → IsWide I r
  pub filled : Each (λ list. list ≢ []) I.lists
