-- Sums over terms, one after another.
use Rattle.std.proofs.Common.{ℕ, ◌+◌, Bool, true, false, ◌&&◌, List, [], ◌∷◌, ◌++◌, map, ◌≡◌, refl, ap, ◌∙◌, arith, length}
use Rattle.std.specs.Prelude.{slice_index_or}
use Rattle.std.proofs.lemmas.List.{get_or_append_left, get_or-append-add, map-append}
use Rattle.wt_bag.specs.Bags.{total, only, Each}
use Rattle.wt_bag.proofs.TotalLaws.{total_ext, total-add, total-zero}
use Rattle.wt_form.specs.declared.form.Expr.{Expr}
use Rattle.wt_form.specs.declared.form.Expr.TheVariants.{Of, Null as NullOf}
use Rattle.wt_form.specs.Trees.{Terms, no_terms, term_then, Ranges, Conds, no_conds, cond_then, Cond, Pred, Join, is_in, not_in}
use Rattle.wt_form.specs.Parts.{one_term, terms_append, with_cond, conds_up, expr_up, conds_list}
use Rattle.wt_form.specs.FormOf.{each_term}
use Rattle.wt_form.specs.Closed.{IsWithin}
use Rattle.wt_instance.specs.declared.instance.Instance.{Instance}
use Rattle.wt_rows.specs.FormRows.{Env, FormRow, part_values, values_of, row_of, terms_rows, conds_hold, cond_holds}
use Rattle.wt_rows.proofs.Sums.{term_total, total-term, conds_hold-append}
use Rattle.wt_rows.proofs.Open.{OfCond}

-- the property of each term
abbrev pub EachTerm : (Ranges → Conds → List Expr → Type 0) → Terms → Type 0
EachTerm P no_terms = Unit {0}
EachTerm P (term_then rs cs ps ts) = P rs cs ps × EachTerm P ts

-- the sum of w over the terms
abbrev pub terms_total : (Ranges → Conds → List Expr → ℕ) → Terms → ℕ
terms_total w no_terms = 0
terms_total w (term_then rs cs ps ts) = w rs cs ps + terms_total w ts

pub total-terms : (I : Instance) (g : FormRow → ℕ) (ts : Terms) → total g (terms_rows ts I) ≡ terms_total (term_total I g) ts
total-terms I g no_terms = refl
total-terms I g (term_then rs cs ps ts) = total-term I g rs cs ps ts ∙ ap (λ n. term_total I g rs cs ps + n) (total-terms I g ts)

pub terms_total-append : (w : Ranges → Conds → List Expr → ℕ) (ts us : Terms) → terms_total w (terms_append ts us) ≡ terms_total w ts + terms_total w us
terms_total-append w no_terms us = omega arith
terms_total-append w (term_then rs cs ps ts) us = omega (arith, terms_total-append w ts us)

pub terms_total-each_term : (w : Ranges → Conds → List Expr → ℕ) (f : Ranges → Conds → List Expr → Terms) (ts : Terms) →
    terms_total w (each_term f ts) ≡ terms_total (λ rs cs ps. terms_total w (f rs cs ps)) ts
terms_total-each_term w f no_terms = refl
terms_total-each_term w f (term_then rs cs ps ts) = omega (arith, terms_total-append w (f rs cs ps) (each_term f ts), terms_total-each_term w f ts)

pub terms_total_ext : (w w' : Ranges → Conds → List Expr → ℕ) (ts : Terms) → EachTerm (λ rs cs ps. w rs cs ps ≡ w' rs cs ps) ts → terms_total w ts ≡ terms_total w' ts
terms_total_ext w w' no_terms h = refl
terms_total_ext w w' (term_then rs cs ps ts) h = omega (arith, h.0, terms_total_ext w w' ts h.1)

pub terms_total_by : (P : Ranges → Conds → List Expr → Type 0) (w w' : Ranges → Conds → List Expr → ℕ) (ts : Terms) → ((rs : Ranges) (cs : Conds) (ps : List Expr) → P rs cs ps → w rs cs ps ≡ w' rs cs ps) → EachTerm P ts → terms_total w ts ≡ terms_total w' ts
terms_total_by P w w' no_terms f h = refl
terms_total_by P w w' (term_then rs cs ps ts) f h = omega (arith, f rs cs ps h.0, terms_total_by P w w' ts f h.1)

pub each_term_implies : (P Q : Ranges → Conds → List Expr → Type 0) (ts : Terms) → ((rs : Ranges) (cs : Conds) (ps : List Expr) → P rs cs ps → Q rs cs ps) → EachTerm P ts → EachTerm Q ts
each_term_implies P Q no_terms i h = tt
each_term_implies P Q (term_then rs cs ps ts) i h = (i rs cs ps h.0, each_term_implies P Q ts i h.1)

pub each_term_append : (P : Ranges → Conds → List Expr → Type 0) (ts us : Terms) → EachTerm P ts → EachTerm P us → EachTerm P (terms_append ts us)
each_term_append P no_terms us h k = k
each_term_append P (term_then rs cs ps ts) us h k = (h.0, each_term_append P ts us h.1 k)

pub each_term_by : (P Q : Ranges → Conds → List Expr → Type 0) (f : Ranges → Conds → List Expr → Terms) (ts : Terms) → EachTerm P ts → ((rs : Ranges) (cs : Conds) (ps : List Expr) → P rs cs ps → EachTerm Q (f rs cs ps)) → EachTerm Q (each_term f ts)
each_term_by P Q f no_terms h step = tt
each_term_by P Q f (term_then rs cs ps ts) h step = each_term_append Q (f rs cs ps) (each_term f ts) (step rs cs ps h.0) (each_term_by P Q f ts h.1 step)

pub one_total : (w : Ranges → Conds → List Expr → ℕ) (rs : Ranges) (cs : Conds) (ps : List Expr) → terms_total w (one_term rs cs ps) ≡ w rs cs ps
one_total w rs cs ps = omega arith

-- a sum over terms is exchanged with another sum
pub swap_terms : {X : Type 0} (b : X → Bool) (W : X → Ranges → Conds → List Expr → ℕ) (ts : Terms) (xs : List X) →
    total (λ x. only (b x) (terms_total (W x) ts)) xs ≡ terms_total (λ rs cs ps. total (λ x. only (b x) (W x rs cs ps)) xs) ts
swap_terms b W no_terms xs = total_ext _ (λ _. 0) xs (λ x. none (b x)) ∙ total-zero xs
  where
    none : (c : Bool) → only c 0 ≡ 0
    none true = refl
    none false = refl
swap_terms b W (term_then rs cs ps ts) xs =
    total_ext _ (λ x. only (b x) (W x rs cs ps) + only (b x) (terms_total (W x) ts)) xs (λ x. both (b x) (W x rs cs ps) (terms_total (W x) ts))
    ∙ total-add (λ x. only (b x) (W x rs cs ps)) (λ x. only (b x) (terms_total (W x) ts)) xs
    ∙ ap (λ n. total (λ x. only (b x) (W x rs cs ps)) xs + n) (swap_terms b W ts xs)
  where
    both : (c : Bool) (m n : ℕ) → only c (m + n) ≡ only c m + only c n
    both true m n = refl
    both false m n = refl

and_true : (a : Bool) → (a && true) ≡ a
and_true true = refl
and_true false = refl

pub conds_hold-with_cond : (I : Instance) (e : Env) (cs : Conds) (c : Cond) → conds_hold (with_cond cs c) I e ≡ (conds_hold cs I e && cond_holds c I e)
conds_hold-with_cond I e cs c = conds_hold-append I e cs (cond_then c no_conds) ∙ ap (λ b. conds_hold cs I e && b) (and_true (cond_holds c I e))

-- a choice of variables before others
pub values_left : (I : Instance) (e e' : Env) (x : Expr) → IsWithin (length e) x → values_of I (e ++ e') x ≡ values_of I e x
values_left I e e' (Of v i c) h = ap (λ p. part_values I c (slice_index_or p i [])) (get_or_append_left e e' [] v h)
values_left I e e' (NullOf r c) h = refl

pub values_right : (I : Instance) (e e' : Env) (x : Expr) → values_of I (e ++ e') (expr_up (length e) x) ≡ values_of I e' x
values_right I e e' (Of v i c) = ap (λ p. part_values I c (slice_index_or p i [])) (get_or-append-add e e' v [])
values_right I e e' (NullOf r c) = refl

pub conds_left : (I : Instance) (e e' : Env) (cs : Conds) → Each (OfCond (IsWithin (length e))) (conds_list cs) → conds_hold cs I (e ++ e') ≡ conds_hold cs I e
conds_left I e e' no_conds h = refl
conds_left I e e' (cond_then (Pred p x) cs) h = rw (values_left I e e' x h.0, conds_left I e e' cs h.1) refl
conds_left I e e' (cond_then (Join x y) cs) h = rw (values_left I e e' x h.0.0, values_left I e e' y h.0.1, conds_left I e e' cs h.1) refl
conds_left I e e' (cond_then (is_in x k ts) cs) h = rw (values_left I e e' x h.0, conds_left I e e' cs h.1) refl
conds_left I e e' (cond_then (not_in x k ts) cs) h = rw (values_left I e e' x h.0, conds_left I e e' cs h.1) refl

pub conds_right : (I : Instance) (e e' : Env) (cs : Conds) → conds_hold (conds_up (length e) cs) I (e ++ e') ≡ conds_hold cs I e'
conds_right I e e' no_conds = refl
conds_right I e e' (cond_then (Pred p x) cs) = rw (values_right I e e' x, conds_right I e e' cs) refl
conds_right I e e' (cond_then (Join x y) cs) = rw (values_right I e e' x, values_right I e e' y, conds_right I e e' cs) refl
conds_right I e e' (cond_then (is_in x k ts) cs) = rw (values_right I e e' x, conds_right I e e' cs) refl
conds_right I e e' (cond_then (not_in x k ts) cs) = rw (values_right I e e' x, conds_right I e e' cs) refl

pub row_left : (I : Instance) (e e' : Env) (ps : List Expr) → Each (IsWithin (length e)) ps → row_of I ps (e ++ e') ≡ row_of I ps e
row_left I e e' [] h = refl
row_left I e e' (p ∷ ps) h = rw (values_left I e e' p h.0, row_left I e e' ps h.1) refl

pub row_right : (I : Instance) (e e' : Env) (ps : List Expr) → row_of I (map (expr_up (length e)) ps) (e ++ e') ≡ row_of I ps e'
row_right I e e' [] = refl
row_right I e e' (p ∷ ps) = rw (values_right I e e' p, row_right I e e' ps) refl

pub row_of-append : (I : Instance) (e : Env) (ps qs : List Expr) → row_of I (ps ++ qs) e ≡ row_of I ps e ++ row_of I qs e
row_of-append I e ps qs = map-append (values_of I e) ps qs
