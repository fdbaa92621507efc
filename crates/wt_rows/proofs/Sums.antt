-- Sums over the rows of terms.
use Rattle.std.proofs.Common.{ℕ, zero, suc, ◌+◌, ◌<◌, Bool, true, false, ◌&&◌, ◌||◌, List, [], ◌∷◌, ◌++◌, map, ◌≡◌, refl, sym, ap, ◌∙◌, arith, length, inl, inr}
use Rattle.std.specs.Prelude.{filter}
use Rattle.std.specs.List.{list_all}
use Rattle.std.proofs.lemmas.Bool.{and_parts}
use Rattle.wt_bag.specs.Bags.{total, only, Each, SameSums, DecidesEquality}
use Rattle.wt_bag.specs.Choices.{choices, Has}
use Rattle.wt_bag.proofs.TotalLaws.{total-append, total-map, total-filter}
use Rattle.wt_bag.proofs.EachLaws.{each_for}
use Rattle.wt_bag.proofs.BagLaws.{positive, list_any-total, same_elements}
use Rattle.wt_value.proofs.Comparing.{row_same-Decides}
use Rattle.wt_form.specs.declared.form.Expr.{Expr}
use Rattle.wt_form.specs.Trees.{Terms, no_terms, term_then, Ranges, no_ranges, range_then, Conds, no_conds, cond_then, Cond}
use Rattle.wt_form.specs.Parts.{one_term, terms_append, ranges_append, conds_append, terms_count, ranges_count, ranges_list, conds_list, ranges_at, conds_at, pieces_at, terms_without}
use Rattle.wt_instance.specs.declared.instance.Instance.{Instance}
use Rattle.wt_rows.specs.Keeping.{Keeps}
use Rattle.wt_rows.specs.FormRows.{Env, FormRow, form_row_same, row_of, one_rows, terms_rows, ranges_rows, range_rows, conds_hold, cond_holds}
use Rattle.std.proofs.lemmas.Slice.Eq.{slice_eq-Decides}

pub form_rows_decide : DecidesEquality form_row_same
form_rows_decide = record {
  sound = λ a b. (slice_eq-Decides row_same-Decides a b (form_row_same a b) refl).0;
  reflexive = λ a. (slice_eq-Decides row_same-Decides a a (form_row_same a a) refl).1 refl;
}

-- the sum over one term's choices
abbrev pub term_total : Instance → (FormRow → ℕ) → Ranges → Conds → List Expr → ℕ
term_total I g rs cs ps = total (λ e. only (conds_hold cs I e) (g (row_of I ps e))) (choices (ranges_rows rs I))

pub total-term : (I : Instance) (g : FormRow → ℕ) (rs : Ranges) (cs : Conds) (ps : List Expr) (ts : Terms) →
    total g (terms_rows (term_then rs cs ps ts) I) ≡ term_total I g rs cs ps + total g (terms_rows ts I)
total-term I g rs cs ps ts =
    total-append g (one_rows (conds_hold cs I) (row_of I ps) (ranges_rows rs I)) (terms_rows ts I)
    ∙ ap (λ n. n + total g (terms_rows ts I))
    (total-map g (row_of I ps) (filter (conds_hold cs I) (choices (ranges_rows rs I))) ∙ total-filter (λ e. g (row_of I ps e)) (conds_hold cs I) (choices (ranges_rows rs I)))

pub total-one : (I : Instance) (g : FormRow → ℕ) (rs : Ranges) (cs : Conds) (ps : List Expr) → total g (terms_rows (one_term rs cs ps) I) ≡ term_total I g rs cs ps
total-one I g rs cs ps = omega (arith, total-term I g rs cs ps no_terms)

pub total-terms_append : (I : Instance) (g : FormRow → ℕ) (ts us : Terms) → total g (terms_rows (terms_append ts us) I) ≡ total g (terms_rows ts I) + total g (terms_rows us I)
total-terms_append I g no_terms us = omega arith
total-terms_append I g (term_then rs cs ps ts) us = omega (arith, total-term I g rs cs ps ts, total-term I g rs cs ps (terms_append ts us), total-terms_append I g ts us)

-- the k-th term's sum, and the others'
pub total-terms_first : (I : Instance) (g : FormRow → ℕ) (k : ℕ) (us : Terms) → k < terms_count us →
    total g (terms_rows us I) ≡ term_total I g (ranges_at k us) (conds_at k us) (pieces_at k us) + total g (terms_rows (terms_without k us) I)
total-terms_first I g k no_terms l = let bad : ⊥ = omega arith in absurd bad
total-terms_first I g zero (term_then rs cs ps us) l = total-term I g rs cs ps us
total-terms_first I g (suc k) (term_then rs cs ps us) l =
    omega (arith, total-term I g rs cs ps us, total-term I g rs cs ps (terms_without k us), total-terms_first I g k us (omega arith))

and_assoc : (a b c : Bool) → ((a && b) && c) ≡ (a && (b && c))
and_assoc true b c = refl
and_assoc false b c = refl

pub conds_hold-append : (I : Instance) (e : Env) (cs ds : Conds) → conds_hold (conds_append cs ds) I e ≡ (conds_hold cs I e && conds_hold ds I e)
conds_hold-append I e no_conds ds = refl
conds_hold-append I e (cond_then c cs) ds = ap (λ b. cond_holds c I e && b) (conds_hold-append I e cs ds) ∙ sym (and_assoc (cond_holds c I e) (conds_hold cs I e) (conds_hold ds I e))

-- a condition, and those around it
pub conds_hold-middle : (I : Instance) (e : Env) (cs ds : Conds) (c : Cond) → conds_hold (conds_append cs (cond_then c ds)) I e ≡ (cond_holds c I e && conds_hold (conds_append cs ds) I e)
conds_hold-middle I e no_conds ds c = refl
conds_hold-middle I e (cond_then d cs) ds c = ap (λ b. cond_holds d I e && b) (conds_hold-middle I e cs ds c) ∙ exchange (cond_holds d I e) (cond_holds c I e) (conds_hold (conds_append cs ds) I e)
  where
    exchange : (a b c : Bool) → (a && (b && c)) ≡ (b && (a && c))
    exchange true true c = refl
    exchange true false c = refl
    exchange false true c = refl
    exchange false false c = refl

-- a condition among those that hold
pub cond_there : (I : Instance) (e : Env) (c : Cond) (cs : Conds) → Has c (conds_list cs) → conds_hold cs I e ≡ true → cond_holds c I e ≡ true
cond_there I e c no_conds h t = absurd h
cond_there I e c (cond_then d cs) (inl q) t = ap (λ b. cond_holds b I e) q ∙ (and_parts (cond_holds d I e) (conds_hold cs I e) t).0
cond_there I e c (cond_then d cs) (inr h) t = cond_there I e c cs h (and_parts (cond_holds d I e) (conds_hold cs I e) t).1

pub conds_hold-list : (I : Instance) (e : Env) (cs : Conds) → conds_hold cs I e ≡ list_all (λ c. cond_holds c I e) (conds_list cs)
conds_hold-list I e no_conds = refl
conds_hold-list I e (cond_then c cs) = ap (λ b. cond_holds c I e && b) (conds_hold-list I e cs)

pub ranges_rows-list : (I : Instance) (gs : Ranges) → ranges_rows gs I ≡ map (λ r. range_rows r I) (ranges_list gs)
ranges_rows-list I no_ranges = refl
ranges_rows-list I (range_then r rs) = ap (λ l. range_rows r I ∷ l) (ranges_rows-list I rs)

pub ranges_rows-append : (I : Instance) (rs ss : Ranges) → ranges_rows (ranges_append rs ss) I ≡ ranges_rows rs I ++ ranges_rows ss I
ranges_rows-append I no_ranges ss = refl
ranges_rows-append I (range_then r rs) ss = ap (λ l. range_rows r I ∷ l) (ranges_rows-append I rs ss)

pub length-ranges_rows : (I : Instance) (rs : Ranges) → length (ranges_rows rs I) ≡ ranges_count rs
length-ranges_rows I no_ranges = refl
length-ranges_rows I (range_then r rs) = omega (arith, length-ranges_rows I rs)

pub keeps_same : (k : Bool) (xs ys : List FormRow) → SameSums xs ys → Keeps k xs ys
keeps_same false xs ys h = h
keeps_same true xs ys h = same_elements xs ys h

-- sums that are 0 together
pub positive_ext : {X : Type 0} (f g : X → ℕ) (xs : List X) → ((x : X) → positive (f x) ≡ positive (g x)) → positive (total f xs) ≡ positive (total g xs)
positive_ext f g [] h = refl
positive_ext f g (x ∷ xs) h = positive_add (f x) (g x) (total f xs) (total g xs) (h x) (positive_ext f g xs h)
  where
    positive_sum : (a b : ℕ) → positive (a + b) ≡ (positive a || positive b)
    positive_sum zero b = let n : 0 + b ≡ b = omega arith in ap positive n
    positive_sum (suc a) b = let n : suc a + b ≡ suc (a + b) = omega arith in rw n

    positive_add : (a b c d : ℕ) → positive a ≡ positive b → positive c ≡ positive d → positive (a + c) ≡ positive (b + d)
    positive_add a b c d h j = positive_sum a c ∙ rw (h, j) (sym (positive_sum b d))

-- equal sums at the top, and inside sums that are 0 together
abbrev pub Alike : Bool → ℕ → ℕ → Type 0
Alike false m n = m ≡ n
Alike true m n = positive m ≡ positive n

pub alike_same : (k : Bool) (m n : ℕ) → m ≡ n → Alike k m n
alike_same false m n h = h
alike_same true m n h = ap positive h

pub alike_then : (k : Bool) (m n o : ℕ) → Alike k m n → Alike k n o → Alike k m o
alike_then false m n o h j = h ∙ j
alike_then true m n o h j = h ∙ j

pub positive_sum : (a b : ℕ) → positive (a + b) ≡ (positive a || positive b)
positive_sum zero b = let n : 0 + b ≡ b = omega arith in ap positive n
positive_sum (suc a) b = let n : suc a + b ≡ suc (a + b) = omega arith in rw n

pub alike_add : (k : Bool) (a b c d : ℕ) → Alike k a b → Alike k c d → Alike k (a + c) (b + d)
alike_add false a b c d h j = rw (h, j) refl
alike_add true a b c d h j = positive_sum a c ∙ rw (h, j) (sym (positive_sum b d))

pub alike_each : {X : Type 0} (k : Bool) (f g : X → ℕ) (xs : List X) → Each (λ x. Alike k (f x) (g x)) xs → Alike k (total f xs) (total g xs)
alike_each k f g [] h = alike_same k 0 0 refl
alike_each k f g (x ∷ xs) h = alike_add k (f x) (g x) (total f xs) (total g xs) h.0 (alike_each k f g xs h.1)

pub alike_all : {X : Type 0} (k : Bool) (f g : X → ℕ) (xs : List X) → ((x : X) → Alike k (f x) (g x)) → Alike k (total f xs) (total g xs)
alike_all k f g xs h = alike_each k f g xs (each_for xs h)

pub keeps_alike : (k : Bool) (xs ys : List FormRow) → ((g : FormRow → ℕ) → Alike k (total g xs) (total g ys)) → Keeps k xs ys
keeps_alike false xs ys h = record { sums = h }
keeps_alike true xs ys h = record { tests = λ p. list_any-total p xs ∙ h (λ x. only (p x) 1) ∙ sym (list_any-total p ys) }
