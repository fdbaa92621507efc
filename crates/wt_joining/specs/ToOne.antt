-- One variable stands for two, by the ends of Joins.
use Rattle.std.specs.Prelude.{ℕ, ◌<◌, ◌≡◌, ◌⊎◌, true, List, length, map}
use Rattle.wt_bag.specs.Choices.{At, drop_at}
use Rattle.wt_symbol.specs.declared.head.PartCols.TheVariants.{List as Listed}
use Rattle.wt_form.specs.declared.form.Expr.{Expr}
use Rattle.wt_form.specs.declared.form.Expr.TheVariants.{Of}
use Rattle.wt_form.specs.Trees.{Terms, FormRange, Rel, Cond}
use Rattle.wt_form.specs.Parts.{one_term, conds_map}
use Rattle.wt_form.specs.Known.{Known}
use Rattle.wt_form.specs.Congruent.{expr_same}
use Rattle.wt_form.specs.Changes.{expr_onto}
use Rattle.wt_places.specs.Lists.{conds_from, ranges_from}
use Rattle.wt_places.specs.Gained.{Upto, EachOf}
use Rattle.wt_joining.specs.declared.ends.End.{End}

-- the variables are over leaves that are the same, of which list b is unique
abbrev pub StandTogether : Known → List FormRange → ℕ → ℕ → ℕ → Type 0
StandTogether K rs x y b = (r : ℕ) × (s : ℕ) × At (λ range. range ≡ Rel r) x rs × At (λ range. range ≡ Rel s) y rs × (K.rel r s ≡ true) × (K.unique r b ≡ true)

-- the term with x standing for y, whose range is left out already
abbrev pub merged_term : List FormRange → List Cond → List Expr → ℕ → ℕ → Terms
merged_term left cs ps x y = one_term (ranges_from left) (conds_map (expr_onto x y) (conds_from cs)) (map (expr_onto x y) ps)

-- list b of x and list c of y are one unique list
abbrev pub MergedBy : Known → List FormRange → List Cond → List Expr → ℕ → ℕ → ℕ → ℕ → Terms → Type 0
MergedBy K rs cs ps x b y c us = (x < y) × (K.attr b c ≡ true) × StandTogether K rs x y b × (us ≡ merged_term (drop_at y rs) cs ps x y)

-- an end is joined with a list of another variable
abbrev pub MergedDirectly : Known → List FormRange → List Cond → List Expr → End → Terms → Type 0
MergedDirectly K rs cs ps end us = (y : ℕ) × (c : ℕ) × (end.other ≡ Of y 0 (Listed c)) × MergedBy K rs cs ps end.var end.list y c us

-- two ends are joined with expressions that are the same
abbrev pub MergedThrough : Known → List ℕ → List FormRange → List Cond → List Expr → End → End → Terms → Type 0
MergedThrough K ks rs cs ps end other us = (expr_same K ks end.other other.other ≡ true) × MergedBy K rs cs ps end.var end.list other.var other.list us

-- either
abbrev pub MergedFrom : Known → List ℕ → List FormRange → List Cond → List Expr → List End → End → Terms → Type 0
MergedFrom K ks rs cs ps ends end us = MergedDirectly K rs cs ps end us ⊎ Upto (EachOf (MergedThrough K ks rs cs ps end) ends) (length ends) us
