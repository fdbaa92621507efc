-- Steps that rest on a Join: it becomes an In, two variables become one, or one expression is written for another.
use Rattle.std.specs.Prelude.{ℕ, ◌<◌, ◌≡◌, ◌⊎◌, Bool, true, List, [], ◌∷◌, map}
use Rattle.wt_bag.specs.Bags.{Each}
use Rattle.wt_bag.specs.Choices.{At, Has}
use Rattle.wt_symbol.specs.declared.head.Part.{Part}
use Rattle.wt_symbol.specs.declared.head.PartCols.TheVariants.{List as Listed}
use Rattle.wt_form.specs.declared.form.Expr.{Expr}
use Rattle.wt_form.specs.declared.form.Expr.TheVariants.{Of}
use Rattle.wt_form.specs.Trees.{Terms, Ranges, FormRange, Rel, distinct_of, Conds, cond_then, Cond, is_in}
use Rattle.wt_form.specs.Parts.{one_term, ranges_append, conds_append, conds_map, ranges_count, ranges_list, conds_list}
use Rattle.wt_form.specs.Known.{Known}
use Rattle.wt_form.specs.Congruent.{expr_same}
use Rattle.wt_form.specs.Facts.{Joins, IsOver}
use Rattle.wt_form.specs.Places.{CondAt, others, replaced, RangeAt, itself, list_rows}
use Rattle.wt_form.specs.Changes.{expr_before, put, expr_down, expr_onto, CondAvoids}

-- the form of which a joined variable's row becomes a row: of a relation's list, which is unique or
-- where it only counts which rows occur; or of distinct rows of one part with this list
abbrev pub Joined : Known → Bool → FormRange → ℕ → List Part → Terms → Type 0
Joined K nested (Rel r) b h ts = ((nested ≡ true) ⊎ (K.unique r b ≡ true)) × (h ≡ record { leaf = r; cols = Listed b } ∷ []) × (ts ≡ list_rows r b)
Joined K nested (distinct_of g us) b h ts = (leaf : ℕ) × (d : ℕ) × (g ≡ record { leaf = leaf; cols = Listed d } ∷ []) × (K.attr b d ≡ true) × (h ≡ g) × (ts ≡ us)

-- a Join with a variable that occurs nowhere else becomes an In
pub record JoinToIn (K : Known) (nested : Bool) (rs : Ranges) (cs : Conds) (ps : List Expr) (us : Terms) : Type 0 where
  pub range : FormRange
  pub at : RangeAt rs range
  pub e : Expr
  pub b : ℕ
  pub join : Cond
  pub place : CondAt cs join
  pub joins : Joins e (Of (ranges_count at.before) 0 (Listed b)) join
  pub elsewhere : (IsOver (ranges_count at.before) e → ⊥) × Each (CondAvoids (ranges_count at.before)) (conds_list (others place)) × Each (λ x. IsOver (ranges_count at.before) x → ⊥) ps
  pub h : List Part
  pub ts : Terms
  pub becomes : Joined K nested range b h ts
  pub gives : us ≡ one_term (ranges_append at.before at.after) (conds_map (expr_down (ranges_count at.before)) (replaced place (is_in e h ts))) (map (expr_down (ranges_count at.before)) ps)

-- two variables over relations are joined on a unique list: with one another, or with one expression
abbrev pub JoinedTogether : Known → Ranges → Conds → ℕ → ℕ → ℕ → Type 0
JoinedTogether K rs cs a x y = (b : ℕ) × (c : ℕ) × (K.attr b a ≡ true) × (K.attr c a ≡ true) ×
    (((q : Cond) × Has q (conds_list cs) × Joins (Of x 0 (Listed b)) (Of y 0 (Listed c)) q)
    ⊎ ((p : Cond) × (q : Cond) × (e : Expr) × (e' : Expr) × Has p (conds_list cs) × Has q (conds_list cs)
    × Joins (Of x 0 (Listed b)) e p × Joins (Of y 0 (Listed c)) e' q × (expr_same K (itself rs) e e' ≡ true)))

-- one variable stands for two over leaves that are the same, joined on a unique list; all conditions stay
pub record Merged (K : Known) (rs : Ranges) (cs : Conds) (ps : List Expr) (us : Terms) : Type 0 where
  pub x : ℕ
  pub r : ℕ
  pub s : ℕ
  pub a : ℕ
  pub at : RangeAt rs (Rel s)
  pub before : x < ranges_count at.before
  pub over : At (λ range. range ≡ Rel r) x (ranges_list rs)
  pub leaf : K.rel r s ≡ true
  pub unique : K.unique r a ≡ true
  pub joined : JoinedTogether K rs cs a x (ranges_count at.before)
  pub gives : us ≡ one_term (ranges_append at.before at.after) (conds_map (expr_onto x (ranges_count at.before)) cs) (map (expr_onto x (ranges_count at.before)) ps)

-- of two joined expressions the one before is written for every other occurrence of the other
pub record Rewritten (K : Known) (rs : Ranges) (cs : Conds) (ps : List Expr) (us : Terms) : Type 0 where
  pub e : Expr
  pub e' : Expr
  pub join : Cond
  pub place : CondAt cs join
  pub joins : Joins e e' join
  pub earlier : expr_before e e' ≡ true
  pub cs' : Conds
  pub is : cs' ≡ conds_append (conds_map (put e e') place.before) (cond_then join (conds_map (put e e') place.after))
  pub changed : (cs' ≡ cs) × (map (put e e') ps ≡ ps) → ⊥
  pub gives : us ≡ one_term rs cs' (map (put e e') ps)
