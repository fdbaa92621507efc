-- A variable over a nested form of one term is opened.
use Rattle.std.proofs.Common.{ℕ, ◌+◌, Bool, true, false, ◌&&◌, List, [], ◌∷◌, ◌++◌, map, ◌≡◌, refl, sym, ap, ◌∙◌, subst, length, ◌⊎◌, inl, inr}
use Rattle.std.specs.Prelude.{slice_index_or}
use Rattle.wt_bag.specs.Bags.{total, only, Each, distinct}
use Rattle.wt_bag.specs.Choices.{choices}
use Rattle.wt_bag.proofs.TotalLaws.{total-map, total_ext, total_each}
use Rattle.wt_bag.proofs.EachLaws.{each_implies, each_both}
use Rattle.wt_bag.proofs.ChoiceLaws.{length_choice, total-choices_at, total-choices_append}
use Rattle.wt_symbol.specs.declared.head.Part.{Part}
use Rattle.wt_form.specs.declared.form.Expr.{Expr}
use Rattle.wt_form.specs.declared.form.Expr.TheVariants.{Of, Null as NullOf}
use Rattle.wt_form.specs.Trees.{Terms, Ranges, range_then, distinct_of, Conds, no_conds, cond_then, Cond, Pred, Join, is_in, not_in}
use Rattle.wt_form.specs.Parts.{one_term, ranges_append, conds_append, ranges_count, conds_list, expr_up, conds_up}
use Rattle.wt_form.specs.Known.{Known}
use Rattle.wt_form.specs.Closed.{IsWithin}
use Rattle.wt_instance.specs.declared.instance.Instance.{Instance}
use Rattle.wt_rows.specs.FormRows.{Piece, Env, FormRow, form_row_same, labels, part_values, values_of, row_of, terms_rows, ranges_rows, range_rows, conds_hold, cond_holds}
use Rattle.std.specs.Prelude.{Some}
use Rattle.std.proofs.lemmas.List.{get_or_append_left, get_or-append-add}
use Rattle.wt_bag.specs.Bags.{AtMostOne}
use Rattle.wt_bag.proofs.TotalLaws.{total_swap}
use Rattle.wt_bag.proofs.BagLaws.{distinct_is}
use Rattle.wt_form.specs.Opening.{Opening, expr_opened, CondOpened, CondsOpened, PiecesOpened, Opened}
use Rattle.wt_rows.specs.Keeping.{Keeps}
use Rattle.wt_rows.proofs.Sums.{form_rows_decide, term_total, total-one, ranges_rows-append, length-ranges_rows, conds_hold-append, Alike, alike_same, alike_then, alike_each, alike_all, keeps_alike}
use Rattle.wt_rows.proofs.JoinToIn.{any_distinct}
use Rattle.wt_rows.proofs.TermSteps.{alike_keeps}

abbrev pub OfCond : (Expr → Type 0) → Cond → Type 0
OfCond P (Pred p x) = P x
OfCond P (Join x y) = P x × P y
OfCond P (is_in x h ts) = P x
OfCond P (not_in x h ts) = P x

pub inner : (I : Instance) (a e b : Env) (k : ℕ) (x : Expr) → length a ≡ k → IsWithin (length e) x → values_of I (a ++ (e ++ b)) (expr_up k x) ≡ values_of I e x
inner I a e b k (Of v i c) l w = ap (λ p. part_values I c (slice_index_or p i []))
    (ap (λ n. slice_index_or (a ++ (e ++ b)) (n + v) []) (sym l) ∙ get_or-append-add a (e ++ b) v [] ∙ get_or_append_left e b [] v w)
inner I a e b k (NullOf r c) l w = refl

conds_inner : (I : Instance) (a e b : Env) (k : ℕ) (cs : Conds) → length a ≡ k → Each (OfCond (IsWithin (length e))) (conds_list cs) → conds_hold (conds_up k cs) I (a ++ (e ++ b)) ≡ conds_hold cs I e
conds_inner I a e b k no_conds l h = refl
conds_inner I a e b k (cond_then (Pred p x) cs) l h = rw (inner I a e b k x l h.0, conds_inner I a e b k cs l h.1)
conds_inner I a e b k (cond_then (Join x y) cs) l h = rw (inner I a e b k x l h.0.0, inner I a e b k y l h.0.1, conds_inner I a e b k cs l h.1)
conds_inner I a e b k (cond_then (is_in x g ts) cs) l h = rw (inner I a e b k x l h.0, conds_inner I a e b k cs l h.1)
conds_inner I a e b k (cond_then (not_in x g ts) cs) l h = rw (inner I a e b k x l h.0, conds_inner I a e b k cs l h.1)

-- opened expressions that have their values
module _ (I : Instance) (o : Opening) (P : Expr → Type 0) (E E' : Env) (reads : (x y : Expr) → P x → expr_opened o x ≡ Some y → values_of I E' y ≡ values_of I E x) where
  cond_opened : (c d : Cond) → OfCond P c → CondOpened o c d → cond_holds d I E' ≡ cond_holds c I E
  cond_opened (Pred p x) (Pred q y) f h = rw (reads x y f h.1, h.0) refl
  cond_opened (Join x y) (Join v w) f h = rw (reads x v f.0 h.0, reads y w f.1 h.1) refl
  cond_opened (is_in x h ts) (is_in y h' us) f q = rw (reads x y f q.0, q.2) refl
  cond_opened (not_in x h ts) (not_in y h' us) f q = rw (reads x y f q.0, q.2) refl
  cond_opened _ _ f h = absurd h

  pub conds_opened : (cs ds : Conds) → Each (OfCond P) (conds_list cs) → CondsOpened o cs ds → conds_hold ds I E' ≡ conds_hold cs I E
  conds_opened no_conds ds f h = ap (λ ds. conds_hold ds I E') h
  conds_opened (cond_then c cs) no_conds f h = absurd h
  conds_opened (cond_then c cs) (cond_then d ds) f h = rw (cond_opened c d f.0 h.0, conds_opened cs ds f.1 h.1) refl

  pub pieces_opened : (ps qs : List Expr) → Each P ps → PiecesOpened o ps qs → row_of I qs E' ≡ row_of I ps E
  pieces_opened [] qs f h = ap (λ qs. row_of I qs E') h
  pieces_opened (x ∷ xs) [] f h = absurd h
  pieces_opened (x ∷ xs) (y ∷ ys) f h = rw (reads x y f.0 h.0, pieces_opened xs ys f.1 h.1) refl

module _ (I : Instance) (k : Bool) (h : List Part) (rt : Ranges) (ct : Conds) (pt : List Expr)
    (once : (k ≡ true) ⊎ ((row : FormRow) → AtMostOne (λ y. form_row_same row y) (terms_rows (one_term rt ct pt) I))) where
  -- the sum over the nested form's rows is one over the choices of its term
  opened_range : (W : List Piece → ℕ) → Alike k (total W (range_rows (distinct_of h (one_term rt ct pt)) I)) (total (λ e. only (conds_hold ct I e) (W (labels I h (row_of I pt e)))) (choices (ranges_rows rt I)))
  opened_range W =
      alike_then k _ _ _ (alike_same k _ _ (total-map W (labels I h) (distinct form_row_same (terms_rows (one_term rt ct pt) I))))
      (alike_then k _ (total (λ row. W (labels I h row)) (terms_rows (one_term rt ct pt) I)) _ (go once) (alike_same k _ _ (total-one I (λ row. W (labels I h row)) rt ct pt)))
    where
      go : (k ≡ true) ⊎ ((row : FormRow) → AtMostOne (λ y. form_row_same row y) (terms_rows (one_term rt ct pt) I)) →
          Alike k (total (λ row. W (labels I h row)) (distinct form_row_same (terms_rows (one_term rt ct pt) I))) (total (λ row. W (labels I h row)) (terms_rows (one_term rt ct pt) I))
      go (inl e) = subst (λ b. Alike b (total (λ row. W (labels I h row)) (distinct form_row_same (terms_rows (one_term rt ct pt) I))) (total (λ row. W (labels I h row)) (terms_rows (one_term rt ct pt) I))) (sym e)
          (alike_keeps true (distinct form_row_same (terms_rows (one_term rt ct pt) I)) (terms_rows (one_term rt ct pt) I) (record { tests = λ p. any_distinct form_row_same form_rows_decide p (terms_rows (one_term rt ct pt) I) }) (λ row. W (labels I h row)))
      go (inr u) = alike_same k _ _ ((distinct_is form_row_same form_rows_decide (terms_rows (one_term rt ct pt) I) u).sums (λ row. W (labels I h row)))

and_true : (b : Bool) → (b && true) ≡ b
and_true true = refl
and_true false = refl

and_false : (b : Bool) → (b && false) ≡ false
and_false true = refl
and_false false = refl

-- where each opened expression with P has the value of the old one, in each choice with Q of the inner variables
abbrev pub Reads : Instance → {K : Known} {k : Bool} {rs : Ranges} {cs : Conds} {ps : List Expr} {us : Terms} → Opened K k rs cs ps us → (Expr → Type 0) → (Env → Type 0) → Type 0
Reads I s P Q = (a e b : Env) → length a ≡ ranges_count s.before → length e ≡ ranges_count s.inner → conds_hold s.conds I e ≡ true → Q e → (x y : Expr) → P x →
    expr_opened (record { at = ranges_count s.before; n = ranges_count s.inner; head = s.head; pieces = map (expr_up (ranges_count s.before)) s.pieces }) x ≡ Some y →
    values_of I (a ++ (e ++ b)) y ≡ values_of I (a ++ labels I s.head (row_of I s.pieces e) ∷ b) x

pub opened_keeps : (K : Known) (I : Instance) (k : Bool) (rs : Ranges) (cs : Conds) (ps : List Expr) (us : Terms) (s : Opened K k rs cs ps us) (P : Expr → Type 0) (Q : Env → Type 0) →
    ((k ≡ true) ⊎ ((row : FormRow) → AtMostOne (λ y. form_row_same row y) (terms_rows (one_term s.inner s.conds s.pieces) I))) →
    Each (OfCond (IsWithin (ranges_count s.inner))) (conds_list s.conds) → Each (OfCond P) (conds_list cs) → Each P ps → Each Q (choices (ranges_rows s.inner I)) → Reads I s P Q → Keeps k (terms_rows (one_term rs cs ps) I) (terms_rows us I)
opened_keeps K I k rs cs ps us s P Q once within fc fp good reads =
    subst (λ ts. Keeps k (terms_rows (one_term rs cs ps) I) (terms_rows ts I)) (sym s.gives) (keeps_alike k _ _ (λ g.
    alike_then k _ _ _ (alike_same k _ _ (total-one I g rs cs ps ∙ ap (λ qs. term_total I g qs cs ps) s.is
    ∙ ap (λ l. total (W g) (choices l)) (ranges_rows-append I s.before (range_then (distinct_of s.head (one_term s.inner s.conds s.pieces)) s.after))
    ∙ total-choices_at (W g) (ranges_rows s.before I) (range_rows (distinct_of s.head (one_term s.inner s.conds s.pieces)) I) (ranges_rows s.after I)))
    (alike_then k _ (total (λ a. total (λ e. V g (a ++ e)) (choices (ranges_rows (ranges_append s.inner s.after) I))) (choices (ranges_rows s.before I))) _
    (alike_each k _ _ (choices (ranges_rows s.before I)) (each_implies _ _ (choices (ranges_rows s.before I)) (λ a l. at_left g a (l ∙ length-ranges_rows I s.before)) (length_choice (ranges_rows s.before I))))
    (alike_same k _ _ (sym (total-one I g (ranges_append s.before (ranges_append s.inner s.after)) (conds_append s.cs' (conds_up (ranges_count s.before) s.conds)) s.ps'
    ∙ ap (λ l. total (V g) (choices l)) (ranges_rows-append I s.before (ranges_append s.inner s.after))
    ∙ total-choices_append (V g) (ranges_rows s.before I) (ranges_rows (ranges_append s.inner s.after) I)))))))
  where
    W : (FormRow → ℕ) → Env → ℕ
    W g e = only (conds_hold cs I e) (g (row_of I ps e))

    V : (FormRow → ℕ) → Env → ℕ
    V g e = only (conds_hold (conds_append s.cs' (conds_up (ranges_count s.before) s.conds)) I e) (g (row_of I s.ps' e))

    at_all : (g : FormRow → ℕ) (a e b : Env) → length a ≡ ranges_count s.before → length e ≡ ranges_count s.inner → Q e → (t : Bool) → conds_hold s.conds I e ≡ t →
        only t (W g (a ++ labels I s.head (row_of I s.pieces e) ∷ b)) ≡ V g (a ++ (e ++ b))
    at_all g a e b l m w true q =
        let held : conds_hold (conds_append s.cs' (conds_up (ranges_count s.before) s.conds)) I (a ++ (e ++ b)) ≡ conds_hold cs I (a ++ labels I s.head (row_of I s.pieces e) ∷ b)
        = conds_hold-append I (a ++ (e ++ b)) s.cs' (conds_up (ranges_count s.before) s.conds)
        ∙ ap (λ t. conds_hold s.cs' I (a ++ (e ++ b)) && t) (conds_inner I a e b (ranges_count s.before) s.conds l (subst (λ n. Each (OfCond (IsWithin n)) (conds_list s.conds)) (sym m) within) ∙ q)
        ∙ and_true (conds_hold s.cs' I (a ++ (e ++ b)))
        ∙ conds_opened I _ P (a ++ labels I s.head (row_of I s.pieces e) ∷ b) (a ++ (e ++ b)) (reads a e b l m q w) cs s.cs' fc s.conds_opened in
        sym (ap (λ t. only t (g (row_of I s.ps' (a ++ (e ++ b))))) held
        ∙ ap (λ r. only (conds_hold cs I (a ++ labels I s.head (row_of I s.pieces e) ∷ b)) (g r)) (pieces_opened I _ P (a ++ labels I s.head (row_of I s.pieces e) ∷ b) (a ++ (e ++ b)) (reads a e b l m q w) ps s.ps' fp s.pieces_opened))
    at_all g a e b l m w false q =
        sym (ap (λ t. only t (g (row_of I s.ps' (a ++ (e ++ b)))))
        (conds_hold-append I (a ++ (e ++ b)) s.cs' (conds_up (ranges_count s.before) s.conds)
        ∙ ap (λ t. conds_hold s.cs' I (a ++ (e ++ b)) && t) (conds_inner I a e b (ranges_count s.before) s.conds l (subst (λ n. Each (OfCond (IsWithin n)) (conds_list s.conds)) (sym m) within) ∙ q)
        ∙ and_false (conds_hold s.cs' I (a ++ (e ++ b)))))

    at_left : (g : FormRow → ℕ) (a : Env) → length a ≡ ranges_count s.before →
        Alike k (total (λ b. total (λ c. W g (a ++ c ∷ b)) (range_rows (distinct_of s.head (one_term s.inner s.conds s.pieces)) I)) (choices (ranges_rows s.after I))) (total (λ e. V g (a ++ e)) (choices (ranges_rows (ranges_append s.inner s.after) I)))
    at_left g a l =
        alike_then k _ _ _ (alike_all k _ _ (choices (ranges_rows s.after I)) (λ b. opened_range I k s.head s.inner s.conds s.pieces once (λ c. W g (a ++ c ∷ b))))
        (alike_same k _ _ (
        total_swap (λ b e. only (conds_hold s.conds I e) (W g (a ++ labels I s.head (row_of I s.pieces e) ∷ b))) (choices (ranges_rows s.after I)) (choices (ranges_rows s.inner I))
        ∙ total_each _ _ (choices (ranges_rows s.inner I)) (each_both _ _ _ (choices (ranges_rows s.inner I)) (λ e m w. total_ext _ _ (choices (ranges_rows s.after I)) (λ b. at_all g a e b l (m ∙ length-ranges_rows I s.inner) w (conds_hold s.conds I e) refl)) (length_choice (ranges_rows s.inner I)) good)
        ∙ sym (total-choices_append (λ e. V g (a ++ e)) (ranges_rows s.inner I) (ranges_rows s.after I))
        ∙ ap (λ l'. total (λ e. V g (a ++ e)) (choices l')) (sym (ranges_rows-append I s.inner s.after))))
