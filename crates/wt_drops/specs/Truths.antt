-- Conditions that the rest of their term makes true or false, by lists of ranges and conditions.
use Rattle.std.specs.Prelude.{ℕ, ◌≡◌, ◌⊎◌, true, List, [], ◌∷◌}
use Rattle.wt_bag.specs.Choices.{At}
use Rattle.wt_symbol.specs.declared.head.PartCols.TheVariants.{List as Listed}
use Rattle.wt_form.specs.declared.form.Expr.{Expr}
use Rattle.wt_form.specs.declared.form.Expr.TheVariants.{Of}
use Rattle.wt_form.specs.Trees.{Terms, FormRange, Rel, Cond, Pred, Join, is_in, not_in}
use Rattle.wt_form.specs.Known.{Known}
use Rattle.wt_form.specs.Congruent.{expr_same, CondSame}
use Rattle.wt_form.specs.Places.{list_rows}
use Rattle.wt_form.specs.Drops.{IsNull}
use Rattle.wt_not_null.specs.NeverNull.{IsNeverNull}

-- one of the conditions is the same as this one
abbrev pub SomeSame : Known → List ℕ → List Cond → Cond → Type 0
SomeSame K ks [] c = ⊥
SomeSame K ks (d ∷ ds) c = CondSame K ks d c ⊎ SomeSame K ks ds c

-- the one piece of the values of a list
abbrev pub one_list : ℕ → List Expr
one_list b = Of 0 0 (Listed b) ∷ []

-- list a of variable x refers to list b of leaf s
abbrev pub RefersFrom : Known → List FormRange → ℕ → ℕ → ℕ → ℕ → Type 0
RefersFrom K rs x a s b = (r : ℕ) × At (λ range. range ≡ Rel r) x rs × (K.refs r a s b ≡ true)

-- the expression refers to list b of leaf s, and has no NULL
abbrev pub ReferenceIn : Known → List FormRange → List Cond → Expr → ℕ → ℕ → Type 0
ReferenceIn K rs cs e s b = (x : ℕ) × (a : ℕ) × (e ≡ Of x 0 (Listed a)) × RefersFrom K rs x a s b × IsNeverNull K rs cs e

-- variable y is over a leaf that is the same as s
abbrev pub LeafSame : Known → List FormRange → ℕ → ℕ → Type 0
LeafSame K rs y s = (r : ℕ) × At (λ range. range ≡ Rel r) y rs × (K.rel r s ≡ true)

-- an expression is the same as e, and list b' of variable y as list b of leaf s
abbrev pub AreOfRows : Known → List ℕ → List FormRange → Expr → ℕ → ℕ → Expr → ℕ → ℕ → Type 0
AreOfRows K ks rs e s b e' y b' = (expr_same K ks e e' ≡ true) × (K.attr b' b ≡ true) × LeafSame K rs y s

-- of two expressions the one is the same as e, and the other is a list of a variable that is the same as list b of leaf s
abbrev pub SideJoins : Known → List ℕ → List FormRange → Expr → ℕ → ℕ → Expr → Expr → Type 0
SideJoins K ks rs e s b e' f = (y : ℕ) × (b' : ℕ) × (f ≡ Of y 0 (Listed b')) × AreOfRows K ks rs e s b e' y b'

-- a Join of two such expressions, either of them first
abbrev pub CondJoins : Known → List ℕ → List FormRange → Expr → ℕ → ℕ → Cond → Type 0
CondJoins K ks rs e s b (Join x y) = SideJoins K ks rs e s b x y ⊎ SideJoins K ks rs e s b y x
CondJoins K ks rs e s b (Pred p x) = ⊥
CondJoins K ks rs e s b (is_in x h ts) = ⊥
CondJoins K ks rs e s b (not_in x h ts) = ⊥

abbrev pub SomeJoins : Known → List ℕ → List FormRange → Expr → ℕ → ℕ → List Cond → Type 0
SomeJoins K ks rs e s b [] = ⊥
SomeJoins K ks rs e s b (q ∷ qs) = CondJoins K ks rs e s b q ⊎ SomeJoins K ks rs e s b qs

-- an In of e is true by a reference or by a Join
abbrev pub InIsTrue : Known → List ℕ → List FormRange → List Cond → Expr → Terms → Type 0
InIsTrue K ks rs cs e ts = (s : ℕ) × (b : ℕ) × (ts ≡ list_rows s b) × (ReferenceIn K rs cs e s b ⊎ SomeJoins K ks rs e s b cs)

-- the other conditions make this one true
abbrev pub CondTrue : Known → List ℕ → List FormRange → List Cond → Cond → Type 0
CondTrue K ks rs cs (Pred p x) = ⊥
CondTrue K ks rs cs (Join x y) = (expr_same K ks x y ≡ true) × IsNeverNull K rs cs x
CondTrue K ks rs cs (is_in e h ts) = InIsTrue K ks rs cs e ts
CondTrue K ks rs cs (not_in e h ts) = IsNull e

-- it compares NULL, or the others make true what it denies
abbrev pub CondFalse : Known → List ℕ → List FormRange → List Cond → Cond → Type 0
CondFalse K ks rs cs (Pred p x) = ⊥
CondFalse K ks rs cs (Join x y) = IsNull x ⊎ IsNull y
CondFalse K ks rs cs (is_in e h ts) = IsNull e
CondFalse K ks rs cs (not_in e h ts) = InIsTrue K ks rs cs e ts

-- it denies another one
abbrev pub Denied : Known → List ℕ → List Cond → Cond → Type 0
Denied K ks cs (Pred p x) = ⊥
Denied K ks cs (Join x y) = ⊥
Denied K ks cs (is_in e h ts) = ⊥
Denied K ks cs (not_in e h ts) = SomeSame K ks cs (is_in e h ts)
