-- What stands at a place of a line, read from left to right: the value, and the place behind it.
use Rattle.std.specs.Prelude.{ℕ, zero, suc, ◌+◌, ◌==◌, Bool, true, false, List, [], ◌∷◌, length, take, drop, codes, option_and_then, if◌then◌else◌, Some, None}
use Rattle.std.specs.Str.{bytes_eq}
use Rattle.std.specs.declared.option.Option.{Option}
use Rattle.wt_rule_text.specs.declared.parsed.Version.{Version}
use Rattle.wt_rule_text.specs.declared.parsed.Version.TheVariants.{One, Two}
use Rattle.wt_rule_text.specs.declared.parsed.Listed.{Listed}
use Rattle.wt_rule_text.specs.declared.parsed.Unary.{Unary}
use Rattle.wt_rule_text.specs.declared.parsed.Unary.TheVariants.{Proj, Filter, Dedup}
use Rattle.wt_rule_text.specs.declared.parsed.Binary.{Binary}
use Rattle.wt_rule_text.specs.declared.parsed.Binary.TheVariants.{InnerJoin, LeftJoin, InSub}
use Rattle.wt_rule_text.specs.declared.parsed.ParsedAtom.{ParsedAtom}
use Rattle.wt_rule_text.specs.declared.parsed.ParsedAtom.TheVariants.{RelEq, AttrsEq, PredEq, Unique, NotNull, RefAttrs}
use Rattle.wt_rule_text.specs.declared.parsed.Weights.{Weights}
use Rattle.wt_rule_text.specs.Numbers.{is_digit, is_plain, value}
use Rattle.wt_rule_text.specs.Trees.{SideText, input, one, two, RuleText}

infixl 10 ◌>>=◌
abbrev pub ◌>>=◌ : {A B : Type 0} → Option A → (A → Option B) → Option B
o >>= f = option_and_then f o

-- the first of two that there is
abbrev pub or_else : {A : Type 0} → Option A → Option A → Option A
or_else None p = p
or_else (Some x) p = Some x

-- how many digits a text begins with
abbrev pub leading : List ℕ → ℕ
leading [] = 0
leading (b ∷ bs) = if is_digit b then suc (leading bs) else 0

unfoldable pub after : List ℕ → ℕ → List ℕ → Option ℕ
after line at word = if bytes_eq (take (length word) (drop at line)) word then Some (at + length word) else None

abbrev pub number_in : List ℕ → ℕ → ℕ → Option (ℕ × ℕ)
number_in text count at = if is_plain (take count text) then Some (value (take count text), at + count) else None

unfoldable pub number : List ℕ → ℕ → Option (ℕ × ℕ)
number line at = number_in (drop at line) (leading (drop at line)) at

abbrev pub symbol : List ℕ → List ℕ → ℕ → Option (ℕ × ℕ)
symbol letter line at = after line at letter >>= number line

-- Sides.

-- a list symbol, marked with its anchor or not
abbrev pub anchored : ℕ → List ℕ → ℕ → Option (Listed × ℕ)
anchored list line at = do
  n ← after line at (codes "@")
  r ← symbol (codes "r") line n
  Some (record { list = list; anchor = Some r.0 }, r.1)

abbrev pub listed : Bool → List ℕ → ℕ → Option (Listed × ℕ)
listed marked line at = do
  a ← symbol (codes "a") line at
  if marked then anchored a.0 line a.1 else Some (record { list = a.0; anchor = None }, a.1)

abbrev pub two_listed : Bool → List ℕ → ℕ → Option (Listed × Listed × ℕ)
two_listed marked line at = do
  a ← listed marked line at
  n ← after line a.1 (codes ",")
  b ← listed marked line n
  m ← after line b.1 (codes ">(")
  Some (a.0, b.0, m)

abbrev pub proj : Bool → List ℕ → ℕ → Option (Unary × ℕ)
proj marked line at = do
  n ← after line at (codes "Proj<")
  a ← listed marked line n
  m ← after line a.1 (codes ">(")
  Some (Proj a.0, m)

abbrev pub filter : Bool → List ℕ → ℕ → Option (Unary × ℕ)
filter marked line at = do
  n ← after line at (codes "Filter<")
  p ← symbol (codes "p") line n
  k ← after line p.1 (codes ",")
  a ← listed marked line k
  m ← after line a.1 (codes ">(")
  Some (Filter p.0 a.0, m)

abbrev pub dedup : List ℕ → ℕ → Option (Unary × ℕ)
dedup line at = do
  n ← after line at (codes "Dedup(")
  Some (Dedup, n)

abbrev pub unary : Bool → List ℕ → ℕ → Option (Unary × ℕ)
unary marked line at = or_else (proj marked line at) (or_else (filter marked line at) (dedup line at))

abbrev pub inner_join : Bool → List ℕ → ℕ → Option (Binary × ℕ)
inner_join marked line at = do
  n ← after line at (codes "InnerJoin<")
  a ← two_listed marked line n
  Some (InnerJoin a.0 a.1, a.2)

abbrev pub left_join : Bool → List ℕ → ℕ → Option (Binary × ℕ)
left_join marked line at = do
  n ← after line at (codes "LeftJoin<")
  a ← two_listed marked line n
  Some (LeftJoin a.0 a.1, a.2)

abbrev pub in_sub : Bool → List ℕ → ℕ → Option (Binary × ℕ)
in_sub marked line at = do
  n ← after line at (codes "InSub<")
  a ← listed marked line n
  m ← after line a.1 (codes ">(")
  Some (InSub a.0, m)

abbrev pub binary : Bool → List ℕ → ℕ → Option (Binary × ℕ)
binary marked line at = or_else (inner_join marked line at) (or_else (left_join marked line at) (in_sub marked line at))

-- an operand, or two, where `side` reads one
abbrev pub operand : (ℕ → Option (SideText × ℕ)) → Unary → List ℕ → ℕ → Option (SideText × ℕ)
operand side u line at = do
  s ← side at
  n ← after line s.1 (codes ")")
  Some (one u s.0, n)

abbrev pub two_operands : (ℕ → Option (SideText × ℕ)) → List ℕ → ℕ → Option (SideText × SideText × ℕ)
two_operands side line at = do
  s ← side at
  n ← after line s.1 (codes ",")
  t ← side n
  m ← after line t.1 (codes ")")
  Some (s.0, t.0, m)

-- what the first leads to, if there is one, else the other
abbrev pub first_of : {A B : Type 0} → Option A → (A → Option B) → Option B → Option B
first_of None f p = p
first_of (Some x) f p = f x

-- a side, where `operands` reads its operands
abbrev pub side_over : (ℕ → Option (SideText × ℕ)) → Bool → List ℕ → ℕ → Option (SideText × ℕ)
side_over operands marked line at =
    first_of (symbol (codes "r") line at) (λ r. Some (input r.0, r.1))
    (first_of (unary marked line at) (λ u. operand operands u.0 line u.1)
    (binary marked line at >>= λ b. two_operands operands line b.1 >>= λ s. Some (two b.0 s.0 s.1, s.2)))

-- a side with at most so many operands inside one another
unfoldable pub side : ℕ → Bool → List ℕ → ℕ → Option (SideText × ℕ)
side zero marked line at = None
side (suc depth) marked line at = side_over (side depth marked line) marked line at

-- Atoms.

abbrev pub two_symbols : List ℕ → List ℕ → List ℕ → List ℕ → ℕ → Option (ℕ × ℕ × ℕ)
two_symbols word first second line at = do
  n ← after line at word
  x ← symbol first line n
  m ← after line x.1 (codes ",")
  y ← symbol second line m
  k ← after line y.1 (codes ")")
  Some (x.0, y.0, k)

abbrev pub rel_eq : List ℕ → ℕ → Option (ParsedAtom × ℕ)
rel_eq line at = two_symbols (codes "RelEq(") (codes "r") (codes "r") line at >>= λ t. Some (RelEq t.0 t.1, t.2)

abbrev pub attrs_eq : List ℕ → ℕ → Option (ParsedAtom × ℕ)
attrs_eq line at = two_symbols (codes "AttrsEq(") (codes "a") (codes "a") line at >>= λ t. Some (AttrsEq t.0 t.1, t.2)

abbrev pub pred_eq : List ℕ → ℕ → Option (ParsedAtom × ℕ)
pred_eq line at = two_symbols (codes "PredEq(") (codes "p") (codes "p") line at >>= λ t. Some (PredEq t.0 t.1, t.2)

abbrev pub unique : List ℕ → ℕ → Option (ParsedAtom × ℕ)
unique line at = two_symbols (codes "Unique(") (codes "r") (codes "a") line at >>= λ t. Some (Unique t.0 t.1, t.2)

abbrev pub not_null : List ℕ → ℕ → Option (ParsedAtom × ℕ)
not_null line at = two_symbols (codes "NotNull(") (codes "r") (codes "a") line at >>= λ t. Some (NotNull t.0 t.1, t.2)

abbrev pub leaf_and_list : List ℕ → ℕ → Option (ℕ × ℕ × ℕ)
leaf_and_list line at = do
  r ← symbol (codes "r") line at
  n ← after line r.1 (codes ",")
  a ← symbol (codes "a") line n
  Some (r.0, a.0, a.1)

abbrev pub ref_attrs : List ℕ → ℕ → Option (ParsedAtom × ℕ)
ref_attrs line at = do
  n ← after line at (codes "RefAttrs(")
  x ← leaf_and_list line n
  m ← after line x.2 (codes ",")
  y ← leaf_and_list line m
  k ← after line y.2 (codes ")")
  Some (RefAttrs x.0 x.1 y.0 y.1, k)

abbrev pub equality : List ℕ → ℕ → Option (ParsedAtom × ℕ)
equality line at = or_else (rel_eq line at) (or_else (attrs_eq line at) (pred_eq line at))

abbrev pub property : List ℕ → ℕ → Option (ParsedAtom × ℕ)
property line at = or_else (unique line at) (or_else (not_null line at) (ref_attrs line at))

unfoldable pub atom : List ℕ → ℕ → Option (ParsedAtom × ℕ)
atom line at = or_else (equality line at) (property line at)

abbrev pub spaced_atom : List ℕ → ℕ → Option (ParsedAtom × ℕ)
spaced_atom line at = after line at (codes " ") >>= atom line

-- an atom before others
abbrev pub before : ParsedAtom → List ParsedAtom × ℕ → List ParsedAtom × ℕ
before a more = (a ∷ more.0, more.1)

-- the atom that there is and more behind it, or none
abbrev pub then_more : Option (ParsedAtom × ℕ) → ℕ → (ℕ → List ParsedAtom × ℕ) → List ParsedAtom × ℕ
then_more None at more = ([], at)
then_more (Some a) at more = before a.0 (more a.1)

-- at most so many atoms, each behind a space
abbrev pub more_atoms : ℕ → List ℕ → ℕ → List ParsedAtom × ℕ
more_atoms zero line at = ([], at)
more_atoms (suc most) line at = then_more (spaced_atom line at) at (more_atoms most line)

abbrev pub some_atoms : List ℕ → ℕ → Option (List ParsedAtom × ℕ)
some_atoms line at = atom line at >>= λ a. Some (before a.0 (more_atoms (length line) line a.1))

unfoldable pub atoms : List ℕ → ℕ → Option (List ParsedAtom × ℕ)
atoms line at = first_of (after line at (codes "-")) (λ n. Some ([], n)) (some_atoms line at)

-- Lines.

abbrev pub stated : Version → List ℕ → ℕ → Option (Option Weights × ℕ)
stated One line at = Some (None, at)
stated Two line at = do
  n ← after line at (codes " | ")
  w ← number line n
  m ← after line w.1 (codes " ")
  x ← number line m
  Some (Some (record { source = w.0; dest = x.0 }), x.1)

abbrev pub sides : List ℕ → Option (SideText × SideText × ℕ)
sides line = do
  s ← side (length line) true line 0
  n ← after line s.1 (codes " => ")
  t ← side (length line) false line n
  m ← after line t.1 (codes " | ")
  Some (s.0, t.0, m)

abbrev pub ending : Version → List ℕ → ℕ → Option (Option Weights)
ending version line at = stated version line at >>= λ w. if w.1 == length line then Some w.0 else None

unfoldable pub rule : Version → List ℕ → Option RuleText
rule version line = do
  s ← sides line
  a ← atoms line s.2
  w ← ending version line a.1
  Some (record { source = s.0; dest = s.1; atoms = a.0; weights = w })
