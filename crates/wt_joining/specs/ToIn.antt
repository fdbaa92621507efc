-- A Join becomes an In, by the conditions around it and its two sides.
use Rattle.std.specs.Prelude.{ℕ, ◌≡◌, ◌⊎◌, Bool, true, List, [], ◌∷◌, map}
use Rattle.wt_bag.specs.Bags.{Each}
use Rattle.wt_bag.specs.Choices.{At, drop_at}
use Rattle.wt_symbol.specs.declared.head.Part.{Part}
use Rattle.wt_symbol.specs.declared.head.PartCols.TheVariants.{List as Listed}
use Rattle.wt_form.specs.declared.form.Expr.{Expr}
use Rattle.wt_form.specs.declared.form.Expr.TheVariants.{Of}
use Rattle.wt_form.specs.Trees.{Terms, FormRange, cond_then, Cond, Pred, Join, is_in, not_in}
use Rattle.wt_form.specs.Parts.{one_term, conds_append, conds_map}
use Rattle.wt_form.specs.Known.{Known}
use Rattle.wt_form.specs.Facts.{IsOver}
use Rattle.wt_form.specs.Changes.{expr_down, CondAvoids}
use Rattle.wt_form.specs.Joining.{Joined}
use Rattle.wt_places.specs.Lists.{conds_from, ranges_from}

abbrev pub list_part : ℕ → ℕ → Part
list_part r b = record { leaf = r; cols = Listed b }

-- the head is one part with a list that is the same as b
abbrev pub ListHead : Known → ℕ → List Part → Type 0
ListHead K b h = (leaf : ℕ) × (d : ℕ) × (h ≡ list_part leaf d ∷ []) × (K.attr b d ≡ true)

-- the variable occurs neither in e nor in the conditions before and after, nor in the pieces
abbrev pub IsElsewhere : ℕ → Expr → List Cond → List Cond → List Expr → Type 0
IsElsewhere v e cb ca ps = (IsOver v e → ⊥) × Each (CondAvoids v) cb × Each (CondAvoids v) ca × Each (λ x. IsOver v x → ⊥) ps

-- the term with an In of e between the conditions, without variable v, whose range is left out already
abbrev pub in_term : List FormRange → List Expr → ℕ → List Cond → List Cond → Expr → List Part → Terms → Terms
in_term left ps v cb ca e h ts = one_term (ranges_from left)
    (conds_append (conds_map (expr_down v) (conds_from cb)) (cond_then (is_in (expr_down v e) h ts) (conds_map (expr_down v) (conds_from ca))))
    (map (expr_down v) ps)

-- the range of variable v has such a form for list b
abbrev pub InByRange : Known → Bool → List FormRange → List Expr → ℕ → ℕ → List Cond → List Cond → Expr → Terms → Type 0
InByRange K nested rs ps v b cb ca e us = At (λ range. (h : List Part) × (ts : Terms) × Joined K nested range b h ts × (us ≡ in_term (drop_at v rs) ps v cb ca e h ts)) v rs

-- and the variable occurs nowhere else
abbrev pub InNowhere : Known → Bool → List FormRange → List Expr → ℕ → ℕ → List Cond → List Cond → Expr → Terms → Type 0
InNowhere K nested rs ps v b cb ca e us = IsElsewhere v e cb ca ps × InByRange K nested rs ps v b cb ca e us

-- of two joined expressions the second is a list of such a variable
abbrev pub BecomesIn : Known → Bool → List FormRange → List Expr → List Cond → List Cond → Expr → Expr → Terms → Type 0
BecomesIn K nested rs ps cb ca e f us = (v : ℕ) × (b : ℕ) × (f ≡ Of v 0 (Listed b)) × InNowhere K nested rs ps v b cb ca e us

abbrev pub InEitherWay : Known → Bool → List FormRange → List Expr → List Cond → List Cond → Expr → Expr → Terms → Type 0
InEitherWay K nested rs ps cb ca x y us = BecomesIn K nested rs ps cb ca x y us ⊎ BecomesIn K nested rs ps cb ca y x us

-- the same for the two sides of a Join, either way
abbrev pub InAt : Known → Bool → List FormRange → List Expr → List Cond → Cond → List Cond → Terms → Type 0
InAt K nested rs ps cb (Join x y) ca us = InEitherWay K nested rs ps cb ca x y us
InAt K nested rs ps cb (Pred p x) ca us = ⊥
InAt K nested rs ps cb (is_in x h ts) ca us = ⊥
InAt K nested rs ps cb (not_in x h ts) ca us = ⊥
