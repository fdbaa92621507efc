-- A reading depends on the tokens that it took and the one behind them; a refusal, on those before its place and the few
-- that show it.
use Rattle.std.proofs.Common.{◌≡◌, ℕ, suc, ◌+◌, ◌≤◌, ◌<◌, ◌⊎◌, inl, inr, Bool, true, false, List, [], ◌∷◌, ◌++◌, take, drop, refl, ap, sym, ◌∙◌, arith, append_assoc, Ok, Err, subst, take-take, take-add, drop-drop}
use Rattle.std.proofs.lemmas.List.{drop-take}
use Rattle.std.specs.Prelude.{if◌then◌else◌, ◌||◌, not}
use Rattle.wt_lex.specs.declared.token.Sym.TheVariants as sym
use Rattle.wt_reading.specs.declared.lexeme.Kind.{Kind}
use Rattle.wt_reading.specs.declared.lexeme.Kind.TheVariants.{Mark}
use Rattle.wt_grammar.specs.declared.fault.QueryFault.TheVariants as fault
use Rattle.wt_reading.specs.Lexemes.{Tokens, kind, place}
use Rattle.wt_reading.specs.Readings.{plus, followed}
use Rattle.wt_grammar.specs.Reading.{Read, Refusal, refused, odd}
use Rattle.wt_refusal.specs.Refused.{looked, IsNoTuple}

-- the first n tokens are the same, or both end before
abbrev pub Agree : ℕ → Tokens → Tokens → Type 0
Agree n us ts = take n us ≡ take n ts

pub agree_less : (m n : ℕ) (us ts : Tokens) → m ≤ n → Agree n us ts → Agree m us ts
agree_less m n us ts h e = sym (take-take m n us h) ∙ ap (take m) e ∙ take-take m n ts h

pub agree_behind : (m n : ℕ) (us ts : Tokens) → Agree (m + n) us ts → Agree n (drop m us) (drop m ts)
agree_behind m n us ts e = sym (drop-take m n us) ∙ ap (drop m) e ∙ drop-take m n ts

-- what depends on the first token alone
abbrev pub AtFront : {X : Type 0} → (Tokens → X) → Type 0
AtFront see = (l : Tokens) → see l ≡ see (take 1 l)

pub agree_front : {X : Type 0} (see : Tokens → X) → AtFront see → (j d : ℕ) (us ts : Tokens) → j ≤ d → Agree (suc d) us ts → see (drop j us) ≡ see (drop j ts)
agree_front see front j d us ts h e =
    let size : j + 1 ≤ suc d = omega arith in
    front (drop j us) ∙ ap see (agree_behind j 1 us ts (agree_less (j + 1) (suc d) us ts size e)) ∙ sym (front (drop j ts))

pub kind_front : AtFront kind
kind_front [] = refl
kind_front (t ∷ l) = refl

pub place_front : (end : ℕ) → AtFront (place end)
place_front end [] = refl
place_front end (t ∷ l) = refl

pub some_looked : (why : Refusal) (k : Kind) → 1 ≤ looked why k
some_looked (refused fault.Arithmetic) (Mark sym.Minus) = omega arith
some_looked (refused fault.Subquery) k = omega arith
some_looked (refused fault.NotInSubquery) k = omega arith
some_looked (refused f) k = omega arith
some_looked (odd f) k = omega arith

-- refused for want of a level
abbrev pub too_deep : Refusal → Bool
too_deep (refused fault.TooDeep) = true
too_deep _ = false

-- refused, and for want of a level only where that is asked for
abbrev pub refuses : {A : Type 0} → Bool → Read A → Bool
refuses deep (Ok x) = false
refuses deep (Err e) = deep || not (too_deep e.0)

pub refuses_same : (why : Refusal) → (too_deep why || not (too_deep why)) ≡ true
refuses_same why = by (too_deep why)
  where
    by : (b : Bool) → (b || not b) ≡ true
    by true = refl
    by false = refl

-- what is not refused for want of a level
pub refuses_any : (deep : Bool) (why : Refusal) → too_deep why ≡ false → (deep || not (too_deep why)) ≡ true
refuses_any true why h = refl
refuses_any false why h = ap not h

pub refuses_plus : {A : Type 0} (deep : Bool) (n : ℕ) (r : Read A) → refuses deep r ≡ true → refuses deep (plus n r) ≡ true
refuses_plus deep n (Ok x) h = absurd cc
refuses_plus deep n (Err e) h = h

pub refuses_followed : {A B : Type 0} (deep : Bool) (ts : Tokens) (r : Read A) (g : A → Tokens → Read B) → refuses deep r ≡ true → refuses deep (followed ts r g) ≡ true
refuses_followed deep ts (Ok x) g h = absurd cc
refuses_followed deep ts (Err e) g h = h

module _ (end : ℕ) (bytes : List ℕ) where
  no_tuple_left : (m k : ℕ) (ts behind : Tokens) → IsNoTuple end bytes (take k (drop m ts)) behind → IsNoTuple end bytes (take (m + k) ts) behind
  no_tuple_left m k ts behind (a, t, b, c, e, opens, col, next, none) =
      (take m ts ++ a, t, b, c, take-add m k ts ∙ ap (λ z. take m ts ++ z) e ∙ sym (append_assoc (take m ts) a (t ∷ b)), opens, col, next, none)

  -- Of a refusal at the k-th token: whatever begins with the tokens that show it is refused, or it is where a parenthesis
  -- turns out to be no tuple. It shows no sooner than behind d tokens.
  abbrev pub Refuses : {A : Type 0} → ℕ → (Tokens → Read A) → Tokens → Refusal → ℕ → Tokens → Type 0
  Refuses d part ts why k behind =
      ((d < k + looked why (kind behind)) × ((us : Tokens) → Agree (k + looked why (kind behind)) us ts → refuses (too_deep why) (part us) ≡ true))
      ⊎ ((why ≡ refused fault.Syntax) × IsNoTuple end bytes (take k ts) behind)

  -- what a reading that answers so owes
  abbrev pub Gives : {A : Type 0} → ℕ → (Tokens → Read A) → Tokens → Read A → Type 0
  Gives d part ts (Ok x) = (d ≤ x.1) × ((us : Tokens) → Agree (suc x.1) us ts → part us ≡ Ok x)
  Gives d part ts (Err e) = (k : ℕ) × (e.1 ≡ place end (drop k ts)) × Refuses d part ts e.0 k (drop k ts)

  -- what is read of these tokens depends on those that were taken, d or more, and the one behind them
  unfoldable pub LocalAt : {A : Type 0} → ℕ → (Tokens → Read A) → Tokens → Type 0
  LocalAt d part ts = Gives d part ts (part ts)

  abbrev pub Local : {A : Type 0} → ℕ → (Tokens → Read A) → Type 0
  Local d part = (ts : Tokens) → LocalAt d part ts

  -- a value, with the tokens that it took
  pub value_at : {A : Type 0} (d n : ℕ) (x : A) (ts : Tokens) → d ≤ n → LocalAt d (λ us. Ok (x, n)) ts
  unfolding LocalAt
  value_at d n x ts h = (h, λ us a. refl)

  -- refused, whatever stands behind
  pub refusal_at : (A : Type 0) (d k : ℕ) (why : Refusal) (ts : Tokens) → d < k + looked why (kind (drop k ts)) → LocalAt {A = A} d (λ us. Err (why, place end (drop k us))) ts
  unfolding LocalAt
  refusal_at A d k why ts h = (k, refl, inl (h, λ us a. refuses_same why))

  -- refused by a table of what has a level
  pub table_at : (A : Type 0) (d k : ℕ) (why : Tokens → Refusal) (ts : Tokens) → d < k + looked (why ts) (kind (drop k ts)) → ((us : Tokens) → too_deep (why us) ≡ false) → LocalAt {A = A} d (λ us. Err (why us, place end (drop k us))) ts
  unfolding LocalAt
  table_at A d k why ts h never = (k, refl, inl (h, λ us a. refuses_any (too_deep (why ts)) (why us) (never us)))

  -- refused as soon as the first token is seen
  pub barred_at : {A : Type 0} (part : Tokens → Read A) (why : Refusal) (ts : Tokens) → part ts ≡ Err (why, place end ts) → ((us : Tokens) → Agree 1 us ts → refuses (too_deep why) (part us) ≡ true) → LocalAt 0 part ts
  unfolding LocalAt
  barred_at part why ts e h =
      subst (Gives 0 part ts) (sym e) (0, refl, inl (omega (arith, some_looked why (kind ts)), λ us a. h us (agree_less 1 (0 + looked why (kind ts)) us ts (omega (arith, some_looked why (kind ts))) a)))

  less_refuses : {A : Type 0} (d m : ℕ) (part : Tokens → Read A) (ts : Tokens) (why : Refusal) (k : ℕ) (behind : Tokens) → d ≤ m → Refuses m part ts why k behind → Refuses d part ts why k behind
  less_refuses d m part ts why k behind h (inl (l, r)) = inl (omega (arith, h, l), r)
  less_refuses d m part ts why k behind h (inr r) = inr r

  pub less_at : {A : Type 0} (d m : ℕ) (part : Tokens → Read A) (ts : Tokens) → d ≤ m → LocalAt m part ts → LocalAt d part ts
  unfolding LocalAt
  less_at {A} d m part ts h = by (part ts)
    where
      by : (r : Read A) → Gives m part ts r → Gives d part ts r
      by (Ok x) (l, s) = (omega (arith, h, l), s)
      by (Err e) (k, p, r) = (k, p, less_refuses d m part ts e.0 k (drop k ts) h r)

  -- of a value the depth is known
  pub deep_at : {A : Type 0} (d m : ℕ) (x : A) (part : Tokens → Read A) (ts : Tokens) → part ts ≡ Ok (x, m) → LocalAt d part ts → LocalAt m part ts
  unfolding LocalAt
  deep_at d m x part ts e local = let (l, s) = subst (Gives d part ts) e local in subst (Gives m part ts) (sym e) (omega arith, s)

  -- a value takes so many tokens or more
  pub takes_at : {A : Type 0} (d m : ℕ) (x : A) (part : Tokens → Read A) (ts : Tokens) → part ts ≡ Ok (x, m) → LocalAt d part ts → d ≤ m
  unfolding LocalAt
  takes_at d m x part ts e local = (subst (Gives d part ts) e local).0

  -- what is read of tokens is read of all that begin as those that it took and the one behind them
  pub same_value : {A : Type 0} (d m : ℕ) (x : A) (part : Tokens → Read A) (ts us : Tokens) → LocalAt d part ts → part ts ≡ Ok (x, m) → Agree (suc m) us ts → part us ≡ Ok (x, m)
  unfolding LocalAt
  same_value d m x part ts us local e a = let (l, s) = subst (Gives d part ts) e local in s us a

  -- a reading that is another one on tokens that begin alike
  pub as_at : {A : Type 0} (d : ℕ) (part q : Tokens → Read A) (ts : Tokens) → ((us : Tokens) → Agree (suc d) us ts → part us ≡ q us) → LocalAt d q ts → LocalAt d part ts
  unfolding LocalAt
  as_at {A} d part q ts same local = subst (Gives d part ts) (sym (same ts refl)) (by (q ts) local)
    where
      by : (r : Read A) → Gives d q ts r → Gives d part ts r
      by (Ok x) (l, s) = (l, λ us a. same us (agree_less (suc d) (suc x.1) us ts (omega (arith, l)) a) ∙ s us a)
      by (Err e) (k, p, inl (l, s)) = (k, p, inl (l, λ us a. ap (refuses (too_deep e.0)) (same us (agree_less (suc d) (k + looked e.0 (kind (drop k ts))) us ts (omega (arith, l)) a)) ∙ s us a))
      by (Err e) (k, p, inr r) = (k, p, inr r)

  -- a reading that looks at what the tokens behind the first j begin with
  pub seen_at : {X A : Type 0} (see : Tokens → X) → AtFront see → (j d : ℕ) (by : X → Tokens → Read A) (ts : Tokens) → j ≤ d → LocalAt d (by (see (drop j ts))) ts
      → LocalAt d (λ us. by (see (drop j us)) us) ts
  seen_at see front j d by ts h = as_at d (λ us. by (see (drop j us)) us) (by (see (drop j ts))) ts (λ us a. ap (λ x. by x us) (agree_front see front j d us ts h a))

  -- a test of a kind
  pub test_at : {A : Type 0} (test : Kind → Bool) (j d : ℕ) (p q : Tokens → Read A) (ts : Tokens) → j ≤ d → (test (kind (drop j ts)) ≡ true → LocalAt d p ts) → (test (kind (drop j ts)) ≡ false → LocalAt d q ts)
      → LocalAt d (λ us. if test (kind (drop j us)) then p us else q us) ts
  test_at {A} test j d p q ts h holds fails =
      seen_at kind kind_front j d (λ k us. if test k then p us else q us) ts h (by (test (kind (drop j ts))) refl)
    where
      by : (b : Bool) → test (kind (drop j ts)) ≡ b → LocalAt d (λ us. if b then p us else q us) ts
      by true e = holds e
      by false e = fails e

  -- a refusal at the k-th token behind the first m
  moved_at : {A : Type 0} (d : ℕ) (part : Tokens → Read A) (ts : Tokens) (e : Refusal × ℕ) (m k : ℕ)
      → (e.1 ≡ place end (drop k (drop m ts))) × Refuses d part ts e.0 (m + k) (drop k (drop m ts)) → Gives d part ts (Err e)
  moved_at d part ts e m k r = let (p, s) = subst (λ l. (e.1 ≡ place end l) × Refuses d part ts e.0 (m + k) l) (drop-drop k m ts) r in (m + k, p, s)

  -- a reading behind the first j tokens
  pub behind_at : {A : Type 0} (j d : ℕ) (q : Tokens → Read A) (ts : Tokens) → LocalAt d q (drop j ts) → LocalAt (j + d) (λ us. plus j (q (drop j us))) ts
  unfolding LocalAt
  behind_at {A} j d q ts = by (q (drop j ts))
    where
      size : (n : ℕ) (us : Tokens) → Agree (suc (j + n)) us ts → Agree (suc n) (drop j us) (drop j ts)
      size n us a = let e : suc (j + n) ≡ j + suc n = omega arith in agree_behind j (suc n) us ts (subst (λ k. Agree k us ts) e a)

      shown : (k l : ℕ) (us : Tokens) → Agree (j + k + l) us ts → Agree (k + l) (drop j us) (drop j ts)
      shown k l us a = let e : j + k + l ≡ j + (k + l) = omega arith in agree_behind j (k + l) us ts (subst (λ k. Agree k us ts) e a)

      by : (r : Read A) → Gives d q (drop j ts) r → Gives (j + d) (λ us. plus j (q (drop j us))) ts (plus j r)
      by (Ok x) (l, s) = (omega (arith, l), λ us a. ap (plus j) (s (drop j us) (size x.1 us a)))
      by (Err e) (k, p, inl (l, s)) = moved_at (j + d) (λ us. plus j (q (drop j us))) ts e j k (
        p,
        inl (
          omega (arith, l),
          λ us a. refuses_plus (too_deep e.0) j (q (drop j us)) (s (drop j us) (shown k (looked e.0 (kind (drop k (drop j ts)))) us a)),
        ),
      )
      by (Err e) (k, p, inr (w, r)) = moved_at (j + d) (λ us. plus j (q (drop j us))) ts e j k (p, inr (w, no_tuple_left j k ts (drop k (drop j ts)) r))

  pub next_at : {A : Type 0} (q : Tokens → Read A) (ts : Tokens) → LocalAt 0 q (drop 1 ts) → LocalAt 0 (λ us. plus 1 (q (drop 1 us))) ts
  next_at q ts local = less_at 0 1 (λ us. plus 1 (q (drop 1 us))) ts (omega arith) (behind_at 1 0 q ts local)

  -- a reading, and what follows it
  pub then_at : {A B : Type 0} (d : ℕ) (part : Tokens → Read A) (g : A → Tokens → Read B) (ts : Tokens) → LocalAt d part ts → ((x : A) (m : ℕ) → part ts ≡ Ok (x, m) → LocalAt 0 (g x) (drop m ts))
      → LocalAt d (λ us. followed us (part us) g) ts
  unfolding LocalAt
  then_at {A} {B} d part g ts local next = by (part ts) local (λ x m e. next x m e)
    where
      more : (x : A × ℕ) → d ≤ x.1 → ((us : Tokens) → Agree (suc x.1) us ts → part us ≡ Ok x) → (r : Read B) → Gives 0 (g x.0) (drop x.1 ts) r
          → Gives d (λ us. followed us (part us) g) ts (plus x.1 r)
      more x l s (Ok y) (l', s') = (
        omega (arith, l),
        λ us a.
            ap (λ z. followed us z g) (s us (agree_less (suc x.1) (suc (x.1 + y.1)) us ts (omega arith) a))
            ∙ ap (plus x.1) (s' (drop x.1 us) (agree_behind x.1 (suc y.1) us ts (let e : suc (x.1 + y.1) ≡ x.1 + suc y.1 = omega arith in subst (λ k. Agree k us ts) e a))),
      )
      more x l s (Err e) (k, p, inl (l', s')) =
          let n = looked e.0 (kind (drop k (drop x.1 ts))) in
          let size : x.1 + k + n ≡ x.1 + (k + n) = omega arith in
          moved_at d (λ us. followed us (part us) g) ts e x.1 k (
            p,
            inl (
              omega (arith, l, l'),
              λ us a.
                  ap (λ z. refuses (too_deep e.0) (followed us z g)) (s us (agree_less (suc x.1) (x.1 + k + n) us ts (omega (arith, l')) a))
                  ∙ refuses_plus (too_deep e.0) x.1 (g x.0 (drop x.1 us)) (s' (drop x.1 us) (agree_behind x.1 (k + n) us ts (subst (λ n. Agree n us ts) size a))),
            ),
          )
      more x l s (Err e) (k, p, inr (w, r)) = moved_at d (λ us. followed us (part us) g) ts e x.1 k (p, inr (w, no_tuple_left x.1 k ts (drop k (drop x.1 ts)) r))

      by : (r : Read A) → Gives d part ts r → ((x : A) (m : ℕ) → r ≡ Ok (x, m) → LocalAt 0 (g x) (drop m ts)) → Gives d (λ us. followed us (part us) g) ts (followed ts r g)
      by (Ok x) (l, s) next = more x l s (g x.0 (drop x.1 ts)) (next x.0 x.1 refl)
      by (Err e) (k, p, inl (l, s)) next = (k, p, inl (l, λ us a. refuses_followed (too_deep e.0) us (part us) g (s us a)))
      by (Err e) (k, p, inr r) next = (k, p, inr r)

  -- a reading that nothing but a value follows
  pub last_at : {A B : Type 0} (d : ℕ) (part : Tokens → Read A) (f : A → B) (ts : Tokens) → LocalAt d part ts → LocalAt d (λ us. followed us (part us) (λ x rest. Ok (f x, 0))) ts
  last_at d part f ts local = then_at d part (λ x rest. Ok (f x, 0)) ts local (λ x m e. value_at 0 0 (f x) (drop m ts) (omega arith))
