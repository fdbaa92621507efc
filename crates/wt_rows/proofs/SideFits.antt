-- The form of a side fits.
use Rattle.std.proofs.Common.{ℕ, zero, suc, ◌+◌, ◌<◌, cond, List, [], ◌∷◌, ◌++◌, map, ◌≡◌, refl, sym, ap, ◌∙◌, subst, inl, inr, arith, length, eqb-true}
use Rattle.std.specs.Prelude.{slice_index_or}
use Rattle.wt_bag.specs.Bags.{Each, distinct}
use Rattle.wt_bag.specs.Choices.{choices, Fitting, At}
use Rattle.wt_bag.proofs.EachLaws.{each_append, each_implies, each_distinct, each_filter_map}
use Rattle.wt_bag.proofs.HasLaws.{each_has_self}
use Rattle.wt_bag.proofs.ChoiceLaws.{each_choice}
use Rattle.wt_value.specs.declared.value.Value.TheVariants.{Null}
use Rattle.wt_value.specs.Values.{Tuple}
use Rattle.wt_symbol.specs.declared.head.Part.{Part}
use Rattle.wt_symbol.specs.declared.head.PartCols.{PartCols}
use Rattle.wt_symbol.specs.declared.head.PartCols.TheVariants.{Whole, List as Listed}
use Rattle.wt_symbol.specs.Sides.{SideTree, input, proj, filtered, inner_join, left_join, in_sub, dedup}
use Rattle.wt_symbol.specs.Heads.{anchor, head_of}
use Rattle.wt_form.specs.declared.form.Expr.{Expr}
use Rattle.wt_form.specs.declared.form.Expr.TheVariants.{Of, Null as NullOf}
use Rattle.wt_form.specs.Trees.{Terms, no_terms, term_then, Ranges, no_ranges, range_then, FormRange, Rel, distinct_of, Conds, no_conds, cond_then, Cond, Pred, Join, is_in, not_in}
use Rattle.wt_form.specs.Parts.{ranges_append, conds_append, with_cond, conds_up, expr_up, ranges_count, ranges_list}
use Rattle.wt_form.specs.FormOf.{each_term, expr_with, list_expr, list_of, list_part, proj_term, cond_term, null_pieces, null_term, join_term, join_terms, part_pieces, side_terms, form_of}
use Rattle.wt_instance.specs.declared.instance.Instance.{Instance}
use Rattle.wt_instance.specs.Instances.{width, table, numbers, IsWide}
use Rattle.wt_rows.specs.FormRows.{Piece, Env, FormRow, form_row_same, values_in, numbered, label, labels, nulls, values_of, row_of, one_rows, terms_rows, ranges_rows, range_rows, conds_hold}
use Rattle.wt_rows.specs.Fits.{PartExists, AreOf, HasPart, ExprFits, HasList, IsListed, IsPiece, Aligned, ValuesFit, RowFits, TermsFit, RangesFit, RangeFits, CondFits, CondsFit, Fits}
use Rattle.wt_rows.proofs.Reading.{values_numbered}
use Rattle.wt_rows.proofs.Take.{beside_each}
use Rattle.wt_rows.proofs.Exist.{ranges_put}
use Rattle.wt_rows.proofs.Moving.{at_implies, at_first, at_skip}
use Rattle.wt_rows.proofs.MapsFit.{conds_put, conds_mapped, conds_any, up_listed}
use Rattle.wt_rows.proofs.OpenedFits.{cut_part}
use Rattle.wt_rows.proofs.TermSums.{EachTerm, each_term_append, each_term_by}
use Rattle.wt_rows.proofs.Naming.{cols_of, HaveCols, ListStands}
use Rattle.wt_rows.proofs.StayFit.{listed_fit}

-- part i of a variable over the range is of this leaf
abbrev pub OfLeaf : FormRange → ℕ → ℕ → Type 0
OfLeaf (Rel r) i l = r ≡ l
OfLeaf (distinct_of g ts) i l = At (λ part. part.leaf ≡ l) i g

abbrev pub ExprOfLeaf : Ranges → ℕ → Expr → Type 0
ExprOfLeaf rs l (Of v i c) = At (λ range. OfLeaf range i l) v (ranges_list rs)
ExprOfLeaf rs l (NullOf r c) = r ≡ l

-- each piece is of its part's leaf
abbrev pub OfLeaves : Ranges → List Part → List Expr → Type 0
OfLeaves rs [] [] = Unit {0}
OfLeaves rs (h ∷ hs) (x ∷ ps) = ExprOfLeaf rs h.leaf x × OfLeaves rs hs ps
OfLeaves rs [] (x ∷ ps) = ⊥
OfLeaves rs (h ∷ hs) [] = ⊥

-- what a term of a side's form is: it fits, and its pieces have the columns and the leaves of the head
pub record TermStands (I : Instance) (hs : List Part) (rs : Ranges) (cs : Conds) (ps : List Expr) : Type 0 where
  pub ranges : RangesFit I rs
  pub conds : CondsFit I rs cs
  pub cols : HaveCols hs ps
  pub leaves : OfLeaves rs hs ps
  pub pieces : Each (ExprFits I rs) ps

piece_of_cols : (c : PartCols) (x : Expr) → cols_of x ≡ c → IsPiece c x
piece_of_cols Whole x e = tt
piece_of_cols (Listed a) (Of v i d) e = subst HasList (sym e) tt
piece_of_cols (Listed a) (NullOf r d) e = subst HasList (sym e) tt

pub aligned_cols : (hs : List Part) (ps : List Expr) → HaveCols hs ps → Aligned hs ps
aligned_cols [] [] h = tt
aligned_cols (p ∷ hs) (x ∷ ps) h = (piece_of_cols p.cols x h.0, aligned_cols hs ps h.1)
aligned_cols [] (x ∷ ps) h = absurd h
aligned_cols (p ∷ hs) [] h = absurd h

pub terms_of_stands : (I : Instance) (hs : List Part) (ts : Terms) → EachTerm (TermStands I hs) ts → TermsFit I hs ts
terms_of_stands I hs no_terms h = tt
terms_of_stands I hs (term_then rs cs ps ts) h = ((h.0.ranges, h.0.conds, aligned_cols hs ps h.0.cols, h.0.pieces), terms_of_stands I hs ts h.1)

-- ---- the rows of such a term fit

module _ (I : Instance) (wide : (r : ℕ) → IsWide I r) where
  -- what a variable stands for: a row of its relation, or the labels of a row that fits
  abbrev StandsFor : FormRange → List Piece → Type 0
  StandsFor (Rel r) p = (row : Tuple) × (length row ≡ width I r) × (p ≡ numbered 0 row ∷ [])
  StandsFor (distinct_of h ts) p = (row : FormRow) × RowFits I h row × (p ≡ labels I h row)

  each_table : (r : ℕ) (rows : List Tuple) → Each (λ row. length row ≡ width I r) rows → Each (StandsFor (Rel r)) (map (λ row. numbered 0 row ∷ []) rows)
  each_table r [] h = tt
  each_table r (row ∷ rows) h = ((row, h.0, refl), each_table r rows h.1)

  each_labelled : (h : List Part) (ts : Terms) (rows : List FormRow) → Each (RowFits I h) rows → Each (StandsFor (distinct_of h ts)) (map (labels I h) rows)
  each_labelled h ts [] f = tt
  each_labelled h ts (row ∷ rows) f = ((row, f.0, refl), each_labelled h ts rows f.1)

  each_stands_for : (r : FormRange) → RangeFits I r → Each (StandsFor r) (range_rows r I)
  each_stands_for (Rel r) h = each_table r (table I r) (wide r)
  each_stands_for (distinct_of h ts) f = each_labelled h ts (distinct form_row_same (terms_rows ts I)) (each_distinct (RowFits I h) form_row_same (terms_rows ts I) f.0.1)

  stand_for : (rs : Ranges) → RangesFit I rs → Fitting (λ k r. Each (StandsFor k) r) (ranges_list rs) (ranges_rows rs I)
  stand_for no_ranges h = tt
  stand_for (range_then r rs) h = (each_stands_for r h.0, stand_for rs h.1)

  -- the values of a whole part are as many as its leaf is wide
  whole_part : (h : List Part) (i l : ℕ) (row : FormRow) → RowFits I h row → At (λ part. AreOf I part.cols Whole) i h → At (λ part. part.leaf ≡ l) i h → length (values_in (slice_index_or (labels I h row) i [])) ≡ width I l
  whole_part [] i l row f a b = absurd a
  whole_part (p ∷ h) i l [] f a b = absurd f
  whole_part (p ∷ h) zero l (vs ∷ row) f a b = go p.cols a f.0
    where
      go : (c : PartCols) → AreOf I c Whole → ValuesFit I p.leaf c vs → length (values_in (label I c vs)) ≡ width I l
      go Whole a f = ap length (values_numbered 0 vs) ∙ f ∙ ap (width I) b
      go (Listed d) a f = absurd a
  whole_part (p ∷ h) (suc i) l (vs ∷ row) f a b = whole_part h i l row f.1 a b

  whole_range : (r : FormRange) (i l : ℕ) (p : List Piece) → StandsFor r p → HasPart I r i Whole → OfLeaf r i l → length (values_in (slice_index_or p i [])) ≡ width I l
  whole_range (Rel r) i l p (row, wide, q) h k =
      ap (λ j. length (values_in (slice_index_or p j []))) h ∙ ap (λ z. length (values_in (slice_index_or z 0 []))) q ∙ ap length (values_numbered 0 row) ∙ wide ∙ ap (width I) k
  whole_range (distinct_of g ts) i l p (row, f, q) h k = ap (λ z. length (values_in (slice_index_or z i []))) q ∙ whole_part g i l row f h k

  whole_at : (rs : List FormRange) (e : Env) (v i l : ℕ) → Fitting StandsFor rs e → At (λ r. HasPart I r i Whole) v rs → At (λ r. OfLeaf r i l) v rs → length (values_in (slice_index_or (slice_index_or e v []) i [])) ≡ width I l
  whole_at [] e v i l f a b = absurd a
  whole_at (r ∷ rs) [] v i l f a b = absurd f
  whole_at (r ∷ rs) (p ∷ e) zero i l f a b = whole_range r i l p f.0 a b
  whole_at (r ∷ rs) (p ∷ e) (suc v) i l f a b = whole_at rs e v i l f.1 a b

  length_nulls : (n : ℕ) → length (nulls n) ≡ n
  length_nulls zero = refl
  length_nulls (suc n) = omega (arith, length_nulls n)

  nulls_read : (ns : List ℕ) (l a : ℕ) → ns ≡ numbers I a → ValuesFit I l (Listed a) (map (λ n. Null) ns)
  nulls_read ns l a e = subst (λ z. ValuesFit I l (Listed a) (map (λ n. Null) z)) (sym e) (sym (beside_each (λ n. Null) (numbers I a) (numbers I a) (each_has_self (numbers I a))))

  -- the values of a piece fit its part
  value_fits : (rs : Ranges) (e : Env) (h : Part) (x : Expr) → Fitting StandsFor (ranges_list rs) e → cols_of x ≡ h.cols → ExprOfLeaf rs h.leaf x → ExprFits I rs x → ValuesFit I h.leaf h.cols (values_of I e x)
  value_fits rs e h x f c l fits = subst (λ z. ValuesFit I h.leaf z (values_of I e x)) c (go x l fits)
    where
      go : (x : Expr) → ExprOfLeaf rs h.leaf x → ExprFits I rs x → ValuesFit I h.leaf (cols_of x) (values_of I e x)
      go (Of v i Whole) l fits = whole_at (ranges_list rs) e v i h.leaf f fits.0 l
      go (Of v i (Listed a)) l fits = listed_fit I h.leaf a e v i
      go (NullOf r Whole) l fits = length_nulls (width I r) ∙ ap (width I) l
      go (NullOf r (Listed a)) l fits = nulls_read (numbers I a) h.leaf a refl

  row_of_fits : (rs : Ranges) (e : Env) (hs : List Part) (ps : List Expr) → Fitting StandsFor (ranges_list rs) e → HaveCols hs ps → OfLeaves rs hs ps → Each (ExprFits I rs) ps → RowFits I hs (row_of I ps e)
  row_of_fits rs e [] [] f c l fits = tt
  row_of_fits rs e (h ∷ hs) (x ∷ ps) f c l fits = (value_fits rs e h x f c.0 l.0 fits.0, row_of_fits rs e hs ps f c.1 l.1 fits.1)
  row_of_fits rs e [] (x ∷ ps) f c l fits = absurd c
  row_of_fits rs e (h ∷ hs) [] f c l fits = absurd c

  pub stands_rows : (hs : List Part) (ts : Terms) → EachTerm (TermStands I hs) ts → Each (RowFits I hs) (terms_rows ts I)
  stands_rows hs no_terms h = tt
  stands_rows hs (term_then rs cs ps ts) h =
      each_append (RowFits I hs) (one_rows (conds_hold cs I) (row_of I ps) (ranges_rows rs I)) (terms_rows ts I)
      (each_filter_map (RowFits I hs) (row_of I ps) (conds_hold cs I) (choices (ranges_rows rs I))
      (each_implies (Fitting StandsFor (ranges_list rs)) _ (choices (ranges_rows rs I)) (λ e f q. row_of_fits rs e hs ps f h.0.cols h.0.leaves h.0.pieces) (each_choice StandsFor (ranges_list rs) (ranges_rows rs I) (stand_for rs h.0.ranges))))
      (stands_rows hs ts h.1)

-- ---- the terms of a side's form

-- the leaves, lists and predicates of a side exist, and each list stands on a part that has its numbers
abbrev pub SideStands : Instance → List ℕ → SideTree → Type 0
SideStands I A (input r) = r < length I.tables
SideStands I A (proj a s) = (ListStands I (head_of s A) (anchor A a) a × (a < length I.lists)) × SideStands I A s
SideStands I A (filtered p a s) = (ListStands I (head_of s A) (anchor A a) a × (a < length I.lists)) × (p < length I.trues) × SideStands I A s
SideStands I A (inner_join a b s t) = (ListStands I (head_of s A) (anchor A a) a × (a < length I.lists)) × (ListStands I (head_of t A) (anchor A b) b × (b < length I.lists)) × SideStands I A s × SideStands I A t
SideStands I A (left_join a b s t) = (ListStands I (head_of s A) (anchor A a) a × (a < length I.lists)) × (ListStands I (head_of t A) (anchor A b) b × (b < length I.lists)) × SideStands I A s × SideStands I A t
SideStands I A (in_sub a s t) = (ListStands I (head_of s A) (anchor A a) a × (a < length I.lists)) × SideStands I A s × SideStands I A t
SideStands I A (dedup s) = SideStands I A s

with_fits : (I : Instance) (rs : Ranges) (x : Expr) (a l : ℕ) → AreOf I (cols_of x) (Listed a) → a < length I.lists → ExprFits I rs x → ExprOfLeaf rs l x → ExprFits I rs (expr_with x (Listed a)) × ExprOfLeaf rs l (expr_with x (Listed a))
with_fits I rs (Of v i c) a l k exists fits leaf = ((at_implies (λ range. HasPart I range i c) (λ range. HasPart I range i (Listed a)) (λ range h. cut_part I range i c (Listed a) k h) v (ranges_list rs) fits.0, exists), leaf)
with_fits I rs (NullOf r c) a l k exists fits leaf = ((fits.0, exists), leaf)

with_cols : (x : Expr) (a : ℕ) → (cols_of (expr_with x (Listed a)) ≡ Listed a) × IsListed (expr_with x (Listed a))
with_cols (Of v i c) a = (refl, tt)
with_cols (NullOf r c) a = (refl, tt)

-- the expression of a list
abbrev pub ListFits : Instance → Ranges → ℕ → ℕ → Expr → Type 0
ListFits I rs r a x = ExprFits I rs x × ExprOfLeaf rs r x × (cols_of x ≡ Listed a) × IsListed x

pub list_fits : (I : Instance) (rs : Ranges) (hs : List Part) (ps : List Expr) (r a : ℕ) → ListStands I hs r a → a < length I.lists → HaveCols hs ps → OfLeaves rs hs ps → Each (ExprFits I rs) ps → ListFits I rs r a (list_expr hs ps r a)
list_fits I rs [] ps r a st exists cols leaves fits = absurd st
list_fits I rs (h ∷ hs) [] r a st exists cols leaves fits = absurd cols
list_fits I rs (h ∷ hs) (x ∷ ps) r a (inl st) exists cols leaves fits =
    let w = with_fits I rs x a h.leaf (subst (λ c. AreOf I c (Listed a)) (sym cols.0) st.1) exists fits.0 leaves.0 in
    let c = with_cols x a in
    let leaf : h.leaf ≡ r = eqb-true h.leaf r st.0 in
    subst (λ b. ListFits I rs r a (cond b (expr_with x (Listed a)) (list_expr hs ps r a))) (sym st.0) (w.0, subst (λ l. ExprOfLeaf rs l (expr_with x (Listed a))) leaf w.1, c.0, c.1)
list_fits I rs (h ∷ hs) (x ∷ ps) r a (inr st) exists cols leaves fits =
    subst (λ b. ListFits I rs r a (cond b (expr_with x (Listed a)) (list_expr hs ps r a))) (sym st.0) (list_fits I rs hs ps r a st.1 exists cols.1 leaves.1 fits.1)

-- a list's leaf is one of the head's
pub leaf_exists : (I : Instance) (hs : List Part) (r a : ℕ) → ListStands I hs r a → Each (PartExists I) hs → r < length I.tables
leaf_exists I [] r a st h = absurd st
leaf_exists I (p ∷ hs) r a (inl st) h = subst (λ l. l < length I.tables) (eqb-true p.leaf r st.0) h.0.0
leaf_exists I (p ∷ hs) r a (inr st) h = leaf_exists I hs r a st.1 h.1

conds_with : (I : Instance) (rs : Ranges) (cs : Conds) (c : Cond) → CondsFit I rs cs → CondFits I rs c → CondsFit I rs (with_cond cs c)
conds_with I rs cs c h k = conds_put I rs cs (cond_then c no_conds) h (k, tt)

cols_append : (hs gs : List Part) (ps qs : List Expr) → HaveCols hs ps → HaveCols gs qs → HaveCols (hs ++ gs) (ps ++ qs)
cols_append [] gs [] qs h k = k
cols_append (p ∷ hs) gs (x ∷ ps) qs h k = (h.0, cols_append hs gs ps qs h.1 k)
cols_append [] gs (x ∷ ps) qs h k = absurd h
cols_append (p ∷ hs) gs [] qs h k = absurd h

leaves_append : (rs : Ranges) (hs gs : List Part) (ps qs : List Expr) → OfLeaves rs hs ps → OfLeaves rs gs qs → OfLeaves rs (hs ++ gs) (ps ++ qs)
leaves_append rs [] gs [] qs h k = k
leaves_append rs (p ∷ hs) gs (x ∷ ps) qs h k = (h.0, leaves_append rs hs gs ps qs h.1 k)
leaves_append rs [] gs (x ∷ ps) qs h k = absurd h
leaves_append rs (p ∷ hs) gs [] qs h k = absurd h

-- terms before and after others
first_fits : (I : Instance) (rs ss : Ranges) (x : Expr) → ExprFits I rs x → ExprFits I (ranges_append rs ss) x
first_fits I rs ss (Of v i c) h = (at_first (λ range. HasPart I range i c) rs ss v h.0, h.1)
first_fits I rs ss (NullOf r c) h = h

first_leaf : (rs ss : Ranges) (l : ℕ) (x : Expr) → ExprOfLeaf rs l x → ExprOfLeaf (ranges_append rs ss) l x
first_leaf rs ss l (Of v i c) h = at_first (λ range. OfLeaf range i l) rs ss v h
first_leaf rs ss l (NullOf r c) h = h

later_fits : (I : Instance) (rs ss : Ranges) (x : Expr) → Unit {0} → ExprFits I ss x → ExprFits I (ranges_append rs ss) (expr_up (ranges_count rs) x)
later_fits I rs ss (Of v i c) u h = (at_skip (λ range. HasPart I range i c) rs ss v h.0, h.1)
later_fits I rs ss (NullOf r c) u h = h

later_leaf : (rs ss : Ranges) (l : ℕ) (x : Expr) → ExprOfLeaf ss l x → ExprOfLeaf (ranges_append rs ss) l (expr_up (ranges_count rs) x)
later_leaf rs ss l (Of v i c) h = at_skip (λ range. OfLeaf range i l) rs ss v h
later_leaf rs ss l (NullOf r c) h = h

first_cond : (I : Instance) (rs ss : Ranges) (c : Cond) → CondFits I rs c → CondFits I (ranges_append rs ss) c
first_cond I rs ss (Pred p x) h = (h.0, first_fits I rs ss x h.1)
first_cond I rs ss (Join x y) h = ((h.0.0, first_fits I rs ss x h.0.1), (h.1.0, first_fits I rs ss y h.1.1))
first_cond I rs ss (is_in x k ts) h = ((h.0.0, first_fits I rs ss x h.0.1), h.1)
first_cond I rs ss (not_in x k ts) h = ((h.0.0, first_fits I rs ss x h.0.1), h.1)

first_conds : (I : Instance) (rs ss : Ranges) (cs : Conds) → CondsFit I rs cs → CondsFit I (ranges_append rs ss) cs
first_conds I rs ss no_conds h = tt
first_conds I rs ss (cond_then c cs) h = (first_cond I rs ss c h.0, first_conds I rs ss cs h.1)

first_leaves : (rs ss : Ranges) (hs : List Part) (ps : List Expr) → OfLeaves rs hs ps → OfLeaves (ranges_append rs ss) hs ps
first_leaves rs ss [] [] h = tt
first_leaves rs ss (p ∷ hs) (x ∷ ps) h = (first_leaf rs ss p.leaf x h.0, first_leaves rs ss hs ps h.1)
first_leaves rs ss [] (x ∷ ps) h = absurd h
first_leaves rs ss (p ∷ hs) [] h = absurd h

later_leaves : (rs ss : Ranges) (hs : List Part) (ps : List Expr) → OfLeaves ss hs ps → OfLeaves (ranges_append rs ss) hs (map (expr_up (ranges_count rs)) ps)
later_leaves rs ss [] [] h = tt
later_leaves rs ss (p ∷ hs) (x ∷ ps) h = (later_leaf rs ss p.leaf x h.0, later_leaves rs ss hs ps h.1)
later_leaves rs ss [] (x ∷ ps) h = absurd h
later_leaves rs ss (p ∷ hs) [] h = absurd h

up_cols : (k : ℕ) (x : Expr) → cols_of (expr_up k x) ≡ cols_of x
up_cols k (Of v i c) = refl
up_cols k (NullOf r c) = refl

later_cols : (k : ℕ) (hs : List Part) (ps : List Expr) → HaveCols hs ps → HaveCols hs (map (expr_up k) ps)
later_cols k [] [] h = tt
later_cols k (p ∷ hs) (x ∷ ps) h = (up_cols k x ∙ h.0, later_cols k hs ps h.1)
later_cols k [] (x ∷ ps) h = absurd h
later_cols k (p ∷ hs) [] h = absurd h

later_pieces : (I : Instance) (rs ss : Ranges) (ps : List Expr) → Each (ExprFits I ss) ps → Each (ExprFits I (ranges_append rs ss)) (map (expr_up (ranges_count rs)) ps)
later_pieces I rs ss [] h = tt
later_pieces I rs ss (x ∷ ps) h = (later_fits I rs ss x tt h.0, later_pieces I rs ss ps h.1)

null_cols : (gs : List Part) → HaveCols gs (null_pieces gs)
null_cols [] = tt
null_cols (g ∷ gs) = (refl, null_cols gs)

null_leaves : (rs : Ranges) (gs : List Part) → OfLeaves rs gs (null_pieces gs)
null_leaves rs [] = tt
null_leaves rs (g ∷ gs) = (refl, null_leaves rs gs)

null_fits : (I : Instance) (rs : Ranges) (gs : List Part) → Each (PartExists I) gs → Each (ExprFits I rs) (null_pieces gs)
null_fits I rs [] h = tt
null_fits I rs (g ∷ gs) h = (h.0, null_fits I rs gs h.1)

part_cols : (i : ℕ) (hs : List Part) → HaveCols hs (part_pieces i hs)
part_cols i [] = tt
part_cols i (h ∷ hs) = (refl, part_cols (suc i) hs)

are_of_itself : (I : Instance) (c : PartCols) → AreOf I c c
are_of_itself I Whole = tt
are_of_itself I (Listed a) = each_has_self (numbers I a)

-- the parts behind some others
part_leaves : (g hs : List Part) (ts : Terms) (i : ℕ) → ((P : Part → Type 0) (j : ℕ) → At P j hs → At P (i + j) g) → OfLeaves (range_then (distinct_of g ts) no_ranges) hs (part_pieces i hs)
part_leaves g [] ts i f = tt
part_leaves g (h ∷ hs) ts i f = (
  subst (λ n. At (λ part. part.leaf ≡ h.leaf) n g) (let z : i + 0 ≡ i = omega arith in z) (f (λ part. part.leaf ≡ h.leaf) 0 refl),
  part_leaves g hs ts (suc i) (λ P j a. subst (λ n. At P n g) (let z : i + suc j ≡ suc i + j = omega arith in z) (f P (suc j) a)),
)

part_fits : (I : Instance) (g hs : List Part) (ts : Terms) (i : ℕ) → Each (PartExists I) hs → ((P : Part → Type 0) (j : ℕ) → At P j hs → At P (i + j) g) → Each (ExprFits I (range_then (distinct_of g ts) no_ranges)) (part_pieces i hs)
part_fits I g [] ts i e f = tt
part_fits I g (h ∷ hs) ts i e f = (
  (subst (λ n. At (λ part. AreOf I part.cols h.cols) n g) (let z : i + 0 ≡ i = omega arith in z) (f (λ part. AreOf I part.cols h.cols) 0 (are_of_itself I h.cols)), e.0.1),
  part_fits I g hs ts (suc i) e.1 (λ P j a. subst (λ n. At P n g) (let z : i + suc j ≡ suc i + j = omega arith in z) (f P (suc j) a)),
)

at_start : (g : List Part) (P : Part → Type 0) (j : ℕ) → At P j g → At P (0 + j) g
at_start g P j a = subst (λ n. At P n g) (let z : j ≡ 0 + j = omega arith in z) a

module _ (I : Instance) (A : List ℕ) (wide : (r : ℕ) → IsWide I r) where
  pub heads_exist : (s : SideTree) → SideStands I A s → Each (PartExists I) (head_of s A)
  heads_exist (input r) h = ((h, tt), tt)
  heads_exist (proj a s) h = ((leaf_exists I (head_of s A) (anchor A a) a h.0.0 (heads_exist s h.1), h.0.1), tt)
  heads_exist (filtered p a s) h = heads_exist s h.2
  heads_exist (inner_join a b s t) h = each_append (PartExists I) (head_of s A) (head_of t A) (heads_exist s h.2) (heads_exist t h.3)
  heads_exist (left_join a b s t) h = each_append (PartExists I) (head_of s A) (head_of t A) (heads_exist s h.2) (heads_exist t h.3)
  heads_exist (in_sub a s t) h = heads_exist s h.1
  heads_exist (dedup s) h = heads_exist s h

  listed : (hs : List Part) (a : ℕ) → ListStands I hs (anchor A a) a → a < length I.lists → (rs : Ranges) (cs : Conds) (ps : List Expr) → TermStands I hs rs cs ps → ListFits I rs (anchor A a) a (list_of hs A a ps)
  listed hs a st exists rs cs ps t = list_fits I rs hs ps (anchor A a) a st exists t.cols t.leaves t.pieces

  pub projs : (hs : List Part) (a : ℕ) (ts : Terms) → ListStands I hs (anchor A a) a → a < length I.lists → EachTerm (TermStands I hs) ts → EachTerm (TermStands I (list_part A a ∷ [])) (each_term (proj_term (list_of hs A a)) ts)
  projs hs a ts st exists h = each_term_by (TermStands I hs) (TermStands I (list_part A a ∷ [])) (proj_term (list_of hs A a)) ts h (λ rs cs ps t.
      let x = listed hs a st exists rs cs ps t in
      (record { ranges = t.ranges; conds = t.conds; cols = (x.2, tt); leaves = (x.1, tt); pieces = (x.0, tt) }, tt))

  conded : (hs : List Part) (c : List Expr → Cond) (ts : Terms) → ((rs : Ranges) (cs : Conds) (ps : List Expr) → TermStands I hs rs cs ps → CondFits I rs (c ps)) → EachTerm (TermStands I hs) ts → EachTerm (TermStands I hs) (each_term (cond_term c) ts)
  conded hs c ts w h = each_term_by (TermStands I hs) (TermStands I hs) (cond_term c) ts h (λ rs cs ps t.
      (record { ranges = t.ranges; conds = conds_with I rs cs (c ps) t.conds (w rs cs ps t); cols = t.cols; leaves = t.leaves; pieces = t.pieces }, tt))

  nulled : (hs gs : List Part) (c : List Expr → Cond) (ts : Terms) → Each (PartExists I) gs → ((rs : Ranges) (cs : Conds) (ps : List Expr) → TermStands I hs rs cs ps → CondFits I rs (c ps)) → EachTerm (TermStands I hs) ts → EachTerm (TermStands I (hs ++ gs)) (each_term (null_term c gs) ts)
  nulled hs gs c ts exists w h = each_term_by (TermStands I hs) (TermStands I (hs ++ gs)) (null_term c gs) ts h (λ rs cs ps t. (
    record {
      ranges = t.ranges;
      conds = conds_with I rs cs (c ps) t.conds (w rs cs ps t);
      cols = cols_append hs gs ps (null_pieces gs) t.cols (null_cols gs);
      leaves = leaves_append rs hs gs ps (null_pieces gs) t.leaves (null_leaves rs gs);
      pieces = each_append (ExprFits I rs) ps (null_pieces gs) t.pieces (null_fits I rs gs exists);
    },
    tt,
  ))

  joined : (hs gs : List Part) (a b : ℕ) → ListStands I hs (anchor A a) a → a < length I.lists → ListStands I gs (anchor A b) b → b < length I.lists → (rs rs' : Ranges) (cs cs' : Conds) (ps ps' : List Expr) → TermStands I hs rs cs ps → TermStands I gs rs' cs' ps' →
      TermStands I (hs ++ gs) (ranges_append rs rs') (with_cond (conds_append cs (conds_up (ranges_count rs) cs')) (Join (list_of hs A a ps) (expr_up (ranges_count rs) (list_of gs A b ps')))) (ps ++ map (expr_up (ranges_count rs)) ps')
  joined hs gs a b st exists st' exists' rs rs' cs cs' ps ps' t t' =
      let k = ranges_count rs in
      let both = ranges_append rs rs' in
      let x = listed hs a st exists rs cs ps t in
      let y = listed gs b st' exists' rs' cs' ps' t' in
      record {
        ranges = ranges_put I rs rs' t.ranges t'.ranges;
        conds = conds_with I both (conds_append cs (conds_up k cs')) _
            (conds_put I both cs (conds_up k cs') (first_conds I rs rs' cs t.conds) (conds_mapped I rs' both (expr_up k) (λ x. Unit {0}) (later_fits I rs rs') (up_listed k) cs' (conds_any cs') t'.conds))
            ((x.3, first_fits I rs rs' _ x.0), (up_listed k _ y.3, later_fits I rs rs' _ tt y.0));
        cols = cols_append hs gs ps (map (expr_up k) ps') t.cols (later_cols k gs ps' t'.cols);
        leaves = leaves_append both hs gs ps (map (expr_up k) ps') (first_leaves rs rs' hs ps t.leaves) (later_leaves rs rs' gs ps' t'.leaves);
        pieces = each_append (ExprFits I both) ps (map (expr_up k) ps') (each_implies (ExprFits I rs) (ExprFits I both) ps (first_fits I rs rs') t.pieces) (later_pieces I rs rs' ps' t'.pieces);
      }

  joins : (hs gs : List Part) (a b : ℕ) (ss ts : Terms) → ListStands I hs (anchor A a) a → a < length I.lists → ListStands I gs (anchor A b) b → b < length I.lists → EachTerm (TermStands I hs) ss → EachTerm (TermStands I gs) ts →
      EachTerm (TermStands I (hs ++ gs)) (join_terms (list_of hs A a) (list_of gs A b) ss ts)
  joins hs gs a b ss ts st exists st' exists' h h' =
      each_term_by (TermStands I hs) (TermStands I (hs ++ gs)) (λ rs cs ps. each_term (join_term (list_of hs A a) (list_of gs A b) rs cs ps) ts) ss h (λ rs cs ps t.
      each_term_by (TermStands I gs) (TermStands I (hs ++ gs)) (join_term (list_of hs A a) (list_of gs A b) rs cs ps) ts h' (λ rs' cs' ps' t'.
      (joined hs gs a b st exists st' exists' rs rs' cs cs' ps ps' t t', tt)))

  -- the form of a side, its terms standing
  pub form_fits : (s : SideTree) → Each (PartExists I) (head_of s A) → EachTerm (TermStands I (head_of s A)) (side_terms s A) → Fits I (form_of s A)
  form_fits s e h = ((e, stands_rows I wide (head_of s A) (side_terms s A) h), terms_of_stands I (head_of s A) (side_terms s A) h)

  pub side_stands : (s : SideTree) → SideStands I A s → EachTerm (TermStands I (head_of s A)) (side_terms s A)
  side_stands (input r) h = (record { ranges = (h, tt); conds = tt; cols = (refl, tt); leaves = (refl, tt); pieces = ((refl, tt), tt) }, tt)
  side_stands (proj a s) h = projs (head_of s A) a (side_terms s A) h.0.0 h.0.1 (side_stands s h.1)
  side_stands (filtered p a s) h = conded (head_of s A) (λ ps. Pred p (list_of (head_of s A) A a ps)) (side_terms s A) (λ rs cs ps t. (h.1, (listed (head_of s A) a h.0.0 h.0.1 rs cs ps t).0)) (side_stands s h.2)
  side_stands (inner_join a b s t) h = joins (head_of s A) (head_of t A) a b (side_terms s A) (side_terms t A) h.0.0 h.0.1 h.1.0 h.1.1 (side_stands s h.2) (side_stands t h.3)
  side_stands (left_join a b s t) h =
      let listed_right = projs (head_of t A) b (side_terms t A) h.1.0 h.1.1 (side_stands t h.3) in
      each_term_append (TermStands I (head_of s A ++ head_of t A)) _ _
      (joins (head_of s A) (head_of t A) a b (side_terms s A) (side_terms t A) h.0.0 h.0.1 h.1.0 h.1.1 (side_stands s h.2) (side_stands t h.3))
      (nulled (head_of s A) (head_of t A) (λ ps. not_in (list_of (head_of s A) A a ps) (list_part A b ∷ []) (each_term (proj_term (list_of (head_of t A) A b)) (side_terms t A))) (side_terms s A) (heads_exist t h.3)
      (λ rs cs ps t'. let x = listed (head_of s A) a h.0.0 h.0.1 rs cs ps t' in (
        (x.3, x.0),
        (
          (((leaf_exists I (head_of t A) (anchor A b) b h.1.0 (heads_exist t h.3), h.1.1), tt), stands_rows I wide (list_part A b ∷ []) (each_term (proj_term (list_of (head_of t A) A b)) (side_terms t A)) listed_right),
          terms_of_stands I (list_part A b ∷ []) (each_term (proj_term (list_of (head_of t A) A b)) (side_terms t A)) listed_right,
        ),
      )) (side_stands s h.2))
  side_stands (in_sub a s t) h =
      conded (head_of s A) (λ ps. is_in (list_of (head_of s A) A a ps) (head_of t A) (side_terms t A)) (side_terms s A)
      (λ rs cs ps t'. let x = listed (head_of s A) a h.0.0 h.0.1 rs cs ps t' in ((x.3, x.0), form_fits t (heads_exist t h.2) (side_stands t h.2))) (side_stands s h.1)
  side_stands (dedup s) h = (
    record {
      ranges = (form_fits s (heads_exist s h) (side_stands s h), tt);
      conds = tt;
      cols = part_cols 0 (head_of s A);
      leaves = part_leaves (head_of s A) (head_of s A) (side_terms s A) 0 (at_start (head_of s A));
      pieces = part_fits I (head_of s A) (head_of s A) (side_terms s A) 0 (heads_exist s h) (at_start (head_of s A));
    },
    tt,
  )

  -- the form of a side fits
  pub side_fits : (s : SideTree) → SideStands I A s → Fits I (form_of s A)
  side_fits s h = form_fits s (heads_exist s h) (side_stands s h)
