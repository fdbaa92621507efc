-- A step taken apart, by the place where it is.
use Rattle.std.proofs.Common.{◌≡◌, ◌⊎◌, ◌↔◌, Bool, List, [], ◌++◌, map, refl, sym, ap, ◌∙◌, subst, inl, inr}
use Rattle.wt_bag.specs.Choices.{Has}
use Rattle.wt_bag.proofs.HasLaws.{has_left, has_right, has_split, has_map, has_from_map}
use Rattle.wt_form.specs.declared.form.Expr.{Expr}
use Rattle.wt_form.specs.Trees.{Terms, no_terms, term_then, Ranges, no_ranges, range_then, FormRange, Rel, distinct_of, Conds, no_conds, cond_then, Cond, Pred, Join, is_in, not_in}
use Rattle.wt_form.specs.Parts.{terms_append}
use Rattle.wt_form.specs.Known.{Known}
use Rattle.wt_form.specs.Steps.{Row, PairRow, TermsStep, at_term, at_two, later_term, in_range, in_cond, RangesStep, at_range, later_range, CondsStep, at_in, at_not_in, later_cond}
use Rattle.wt_form.specs.declared.form.Form.{Form as CodeForm}
use Rattle.wt_form.specs.declared.form.Term.{Term as CodeTerm}
use Rattle.wt_form.specs.declared.form.Terms.{Terms as CodeTerms}
use Rattle.wt_two_terms.specs.Pairs.{TwoStep}
use Rattle.wt_steps.specs.Inside.{RangeStep, CondStep}

-- where a step of these terms is
abbrev pub StepOf : Known → Bool → Terms → Terms → Type 0
StepOf K nested no_terms us = ⊥
StepOf K nested (term_then rs cs ps ts) us =
    TwoStep K nested rs cs ps ts us
    ⊎ ((vs : Terms) × Row K nested rs cs ps vs × (us ≡ terms_append vs ts))
    ⊎ ((vs : Terms) × TermsStep (Row K) (PairRow K) nested ts vs × (us ≡ term_then rs cs ps vs))
    ⊎ ((rs' : Ranges) × RangesStep (Row K) (PairRow K) rs rs' × (us ≡ term_then rs' cs ps ts))
    ⊎ ((cs' : Conds) × CondsStep (Row K) (PairRow K) cs cs' × (us ≡ term_then rs cs' ps ts))

pub apart : (K : Known) (nested : Bool) (ts us : Terms) → TermsStep (Row K) (PairRow K) nested ts us → StepOf K nested ts us
apart K nested ts us (at_term {us = vs} r) = inr (inl (vs, r, refl))
apart K nested ts us (at_two rs' cs' ps' between after vs r) = inl (rs', cs', ps', between, after, vs, refl, r, refl)
apart K nested ts us (later_term {us = vs} s) = inr (inr (inl (vs, s, refl)))
apart K nested ts us (in_range {rs' = rs'} s) = inr (inr (inr (inl (rs', s, refl))))
apart K nested ts us (in_cond {cs' = cs'} s) = inr (inr (inr (inr (cs', s, refl))))

pub together : (K : Known) (nested : Bool) (rs : Ranges) (cs : Conds) (ps : List Expr) (ts us : Terms) → StepOf K nested (term_then rs cs ps ts) us → TermsStep (Row K) (PairRow K) nested (term_then rs cs ps ts) us
together K nested rs cs ps ts us (inl h) =
    subst (λ z. TermsStep (Row K) (PairRow K) nested (term_then rs cs ps z) us) (sym h.6) (subst (TermsStep (Row K) (PairRow K) nested (term_then rs cs ps (terms_append h.3 (term_then h.0 h.1 h.2 h.4)))) (sym h.8) (at_two h.0 h.1 h.2 h.3 h.4 h.5 h.7))
together K nested rs cs ps ts us (inr (inl h)) = subst (TermsStep (Row K) (PairRow K) nested (term_then rs cs ps ts)) (sym h.2) (at_term h.1)
together K nested rs cs ps ts us (inr (inr (inl h))) = subst (TermsStep (Row K) (PairRow K) nested (term_then rs cs ps ts)) (sym h.2) (later_term h.1)
together K nested rs cs ps ts us (inr (inr (inr (inl h)))) = subst (TermsStep (Row K) (PairRow K) nested (term_then rs cs ps ts)) (sym h.2) (in_range h.1)
together K nested rs cs ps ts us (inr (inr (inr (inr h)))) = subst (TermsStep (Row K) (PairRow K) nested (term_then rs cs ps ts)) (sym h.2) (in_cond h.1)

-- a list that goes on with each of some results put in their place
pub more : {X Y : Type 0} (f : X → Y) (xs : List X) (out out' : List Y) (P : X → Type 0) (A : Y → Type 0) → out' ≡ out ++ map f xs → ((x : X) → (Has x xs ↔ P x)) → ((y : Y) → (Has y out ↔ A y)) → (y : Y) → (Has y out' ↔ (A y ⊎ ((x : X) × P x × (y ≡ f x))))
more f xs out out' P A e px py y = (λ h. there (has_split y out (map f xs) (subst (Has y) e h)), λ h. subst (Has y) (sym e) (back h))
  where
    there : Has y out ⊎ Has y (map f xs) → A y ⊎ ((x : _) × P x × (y ≡ f x))
    there (inl h) = inl ((py y).0 h)
    there (inr h) = let r = has_from_map y f xs h in inr (r.0, (px r.0).0 r.1, r.2)

    back : A y ⊎ ((x : _) × P x × (y ≡ f x)) → Has y (out ++ map f xs)
    back (inl a) = has_left y out (map f xs) ((py y).1 a)
    back (inr h) = has_right y out (map f xs) (subst (λ z. Has z (map f xs)) (sym h.2) (has_map h.0 f xs ((px h.0).1 h.1)))

pub steps_of : (K : Known) (nested : Bool) (rs : Ranges) (cs : Conds) (ps : List Expr) (ts : Terms) (here later two o1 o2 o3 o4 : List Terms) (ranges : List Ranges) (conds : List Conds) →
    ((us : Terms) → (Has us two ↔ TwoStep K nested rs cs ps ts us)) →
    o1 ≡ two ++ map (λ us. terms_append us ts) here → ((us : Terms) → (Has us here ↔ Row K nested rs cs ps us)) →
    o2 ≡ o1 ++ map (term_then rs cs ps) later → ((us : Terms) → (Has us later ↔ TermsStep (Row K) (PairRow K) nested ts us)) →
    o3 ≡ o2 ++ map (λ rs'. term_then rs' cs ps ts) ranges → ((us : Ranges) → (Has us ranges ↔ RangesStep (Row K) (PairRow K) rs us)) →
    o4 ≡ o3 ++ map (λ cs'. term_then rs cs' ps ts) conds → ((us : Conds) → (Has us conds ↔ CondsStep (Row K) (PairRow K) cs us)) →
    (us : Terms) → (Has us o4 ↔ TermsStep (Row K) (PairRow K) nested (term_then rs cs ps ts) us)
steps_of K nested rs cs ps ts here later two o1 o2 o3 o4 ranges conds w e1 h1 e2 h2 e3 h3 e4 h4 us =
    let m1 = more (λ us. terms_append us ts) here two o1 (Row K nested rs cs ps) (TwoStep K nested rs cs ps ts) e1 h1 w in
    let m2 = more (term_then rs cs ps) later o1 o2 (TermsStep (Row K) (PairRow K) nested ts) _ e2 h2 m1 in
    let m3 = more (λ rs'. term_then rs' cs ps ts) ranges o2 o3 (RangesStep (Row K) (PairRow K) rs) _ e3 h3 m2 in
    let m4 = more (λ cs'. term_then rs cs' ps ts) conds o3 o4 (CondsStep (Row K) (PairRow K) cs) _ e4 h4 m3 in
    (λ h. together K nested rs cs ps ts us (left ((m4 us).0 h)), λ s. (m4 us).1 (right (apart K nested (term_then rs cs ps ts) us s)))
  where
    left : {A B C D E : Type 0} → ((((A ⊎ B) ⊎ C) ⊎ D) ⊎ E) → (A ⊎ B ⊎ C ⊎ D ⊎ E)
    left (inl (inl (inl (inl a)))) = inl a
    left (inl (inl (inl (inr b)))) = inr (inl b)
    left (inl (inl (inr c))) = inr (inr (inl c))
    left (inl (inr d)) = inr (inr (inr (inl d)))
    left (inr e) = inr (inr (inr (inr e)))

    right : {A B C D E : Type 0} → (A ⊎ B ⊎ C ⊎ D ⊎ E) → ((((A ⊎ B) ⊎ C) ⊎ D) ⊎ E)
    right (inl a) = inl (inl (inl (inl a)))
    right (inr (inl b)) = inl (inl (inl (inr b)))
    right (inr (inr (inl c))) = inl (inl (inr c))
    right (inr (inr (inr (inl d)))) = inl (inr d)
    right (inr (inr (inr (inr e)))) = inr e

pub no_steps : (K : Known) (nested : Bool) (us : Terms) → Has us [] ↔ TermsStep (Row K) (PairRow K) nested no_terms us
no_steps K nested us = (λ h. absurd h, λ s. absurd (apart K nested no_terms us s))

abbrev RangesOf : Known → Ranges → Ranges → Type 0
RangesOf K no_ranges ss = ⊥
RangesOf K (range_then r rs) ss = ((s : FormRange) × RangeStep K r s × (ss ≡ range_then s rs)) ⊎ ((rs' : Ranges) × RangesStep (Row K) (PairRow K) rs rs' × (ss ≡ range_then r rs'))

ranges_apart : (K : Known) (rs ss : Ranges) → RangesStep (Row K) (PairRow K) rs ss → RangesOf K rs ss
ranges_apart K rs ss (at_range {us = us} s) = inl (distinct_of _ us, (us, s, refl), refl)
ranges_apart K rs ss (later_range {rs' = rs'} s) = inr (rs', s, refl)

ranges_together : (K : Known) (r : FormRange) (rs ss : Ranges) → RangesOf K (range_then r rs) ss → RangesStep (Row K) (PairRow K) (range_then r rs) ss
ranges_together K (Rel r) rs ss (inl h) = absurd h.1
ranges_together K (distinct_of g ts) rs ss (inl h) = subst (RangesStep (Row K) (PairRow K) (range_then (distinct_of g ts) rs)) (sym (h.2 ∙ ap (λ z. range_then z rs) h.1.2)) (at_range h.1.1)
ranges_together K r rs ss (inr h) = subst (RangesStep (Row K) (PairRow K) (range_then r rs)) (sym h.2) (later_range h.1)

pub ranges_steps_of : (K : Known) (r : FormRange) (rs : Ranges) (here : List FormRange) (later o0 o1 o2 : List Ranges) → o0 ≡ [] → o1 ≡ o0 ++ map (λ s. range_then s rs) here → ((s : FormRange) → (Has s here ↔ RangeStep K r s)) →
    o2 ≡ o1 ++ map (range_then r) later → ((ss : Ranges) → (Has ss later ↔ RangesStep (Row K) (PairRow K) rs ss)) → (ss : Ranges) → (Has ss o2 ↔ RangesStep (Row K) (PairRow K) (range_then r rs) ss)
ranges_steps_of K r rs here later o0 o1 o2 e0 e1 h1 e2 h2 ss =
    let m1 = more (λ s. range_then s rs) here o0 o1 (RangeStep K r) (λ z. ⊥) e1 h1 (λ z. (λ h. subst (Has z) e0 h, λ h. absurd h)) in
    let m2 = more (range_then r) later o1 o2 (RangesStep (Row K) (PairRow K) rs) _ e2 h2 m1 in
    (λ h. ranges_together K r rs ss (left ((m2 ss).0 h)), λ s. (m2 ss).1 (right (ranges_apart K (range_then r rs) ss s)))
  where
    left : {B C : Type 0} → ((⊥ ⊎ B) ⊎ C) → (B ⊎ C)
    left (inl (inl a)) = absurd a
    left (inl (inr b)) = inl b
    left (inr c) = inr c

    right : {B C : Type 0} → (B ⊎ C) → ((⊥ ⊎ B) ⊎ C)
    right (inl b) = inl (inr b)
    right (inr c) = inr c

pub no_ranges_steps : (K : Known) (out : List Ranges) → out ≡ [] → (ss : Ranges) → Has ss out ↔ RangesStep (Row K) (PairRow K) no_ranges ss
no_ranges_steps K out e ss = (λ h. absurd (subst (Has ss) e h), λ s. absurd (ranges_apart K no_ranges ss s))

abbrev CondsOf : Known → Conds → Conds → Type 0
CondsOf K no_conds ds = ⊥
CondsOf K (cond_then c cs) ds = ((d : Cond) × CondStep K c d × (ds ≡ cond_then d cs)) ⊎ ((cs' : Conds) × CondsStep (Row K) (PairRow K) cs cs' × (ds ≡ cond_then c cs'))

conds_apart : (K : Known) (cs ds : Conds) → CondsStep (Row K) (PairRow K) cs ds → CondsOf K cs ds
conds_apart K cs ds (at_in {x = x} {h = h} {us = us} s) = inl (is_in x h us, (us, s, refl), refl)
conds_apart K cs ds (at_not_in {x = x} {h = h} {us = us} s) = inl (not_in x h us, (us, s, refl), refl)
conds_apart K cs ds (later_cond {cs' = cs'} s) = inr (cs', s, refl)

conds_together : (K : Known) (c : Cond) (cs ds : Conds) → CondsOf K (cond_then c cs) ds → CondsStep (Row K) (PairRow K) (cond_then c cs) ds
conds_together K (Pred p x) cs ds (inl h) = absurd h.1
conds_together K (Join x y) cs ds (inl h) = absurd h.1
conds_together K (is_in x g ts) cs ds (inl h) = subst (CondsStep (Row K) (PairRow K) (cond_then (is_in x g ts) cs)) (sym (h.2 ∙ ap (λ z. cond_then z cs) h.1.2)) (at_in h.1.1)
conds_together K (not_in x g ts) cs ds (inl h) = subst (CondsStep (Row K) (PairRow K) (cond_then (not_in x g ts) cs)) (sym (h.2 ∙ ap (λ z. cond_then z cs) h.1.2)) (at_not_in h.1.1)
conds_together K c cs ds (inr h) = subst (CondsStep (Row K) (PairRow K) (cond_then c cs)) (sym h.2) (later_cond h.1)

pub conds_steps_of : (K : Known) (c : Cond) (cs : Conds) (here : List Cond) (later o0 o1 o2 : List Conds) → o0 ≡ [] → o1 ≡ o0 ++ map (λ d. cond_then d cs) here → ((d : Cond) → (Has d here ↔ CondStep K c d)) →
    o2 ≡ o1 ++ map (cond_then c) later → ((ds : Conds) → (Has ds later ↔ CondsStep (Row K) (PairRow K) cs ds)) → (ds : Conds) → (Has ds o2 ↔ CondsStep (Row K) (PairRow K) (cond_then c cs) ds)
conds_steps_of K c cs here later o0 o1 o2 e0 e1 h1 e2 h2 ds =
    let m1 = more (λ d. cond_then d cs) here o0 o1 (CondStep K c) (λ z. ⊥) e1 h1 (λ z. (λ h. subst (Has z) e0 h, λ h. absurd h)) in
    let m2 = more (cond_then c) later o1 o2 (CondsStep (Row K) (PairRow K) cs) _ e2 h2 m1 in
    (λ h. conds_together K c cs ds (left ((m2 ds).0 h)), λ s. (m2 ds).1 (right (conds_apart K (cond_then c cs) ds s)))
  where
    left : {B C : Type 0} → ((⊥ ⊎ B) ⊎ C) → (B ⊎ C)
    left (inl (inl a)) = absurd a
    left (inl (inr b)) = inl b
    left (inr c) = inr c

    right : {B C : Type 0} → (B ⊎ C) → ((⊥ ⊎ B) ⊎ C)
    right (inl b) = inl (inr b)
    right (inr c) = inr c

pub no_conds_steps : (K : Known) (out : List Conds) → out ≡ [] → (ds : Conds) → Has ds out ↔ CondsStep (Row K) (PairRow K) no_conds ds
no_conds_steps K out e ds = (λ h. absurd (subst (Has ds) e h), λ s. absurd (conds_apart K no_conds ds s))

-- results wrapped
pub wrapped : {Y : Type 0} (f : Terms → Y) (inner : List Terms) (o0 o1 : List Y) (P : Terms → Type 0) → o0 ≡ [] → o1 ≡ o0 ++ map f inner → ((us : Terms) → (Has us inner ↔ P us)) → (y : Y) → (Has y o1 ↔ ((us : Terms) × P us × (y ≡ f us)))
wrapped f inner o0 o1 P e0 e1 h1 y =
    let m = more f inner o0 o1 P (λ z. ⊥) e1 h1 (λ z. (λ h. subst (Has z) e0 h, λ h. absurd h)) in
    (λ h. left ((m y).0 h), λ h. (m y).1 (inr h))
  where
    left : {B : Type 0} → (⊥ ⊎ B) → B
    left (inl a) = absurd a
    left (inr b) = b

pub sub_both : (P : CodeTerm → CodeTerms → Type 0) {a a' : CodeTerm} {b b' : CodeTerms} → a ≡ a' → b ≡ b' → P a b → P a' b'
sub_both P {a = a} {b' = b'} e f p = subst (λ z. P z b') e (subst (P a) f p)

pub sub_form : (P : CodeForm → Type 0) {a a' : CodeForm} → a ≡ a' → P a → P a'
sub_form P e p = subst P e p
