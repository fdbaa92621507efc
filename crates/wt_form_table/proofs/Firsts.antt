-- The first place of an entry.
use Rattle.std.proofs.Common.{ℕ, zero, suc, ◌≡◌, Bool, true, false, cond, not, ◌||◌, List, [], ◌∷◌, ◌++◌, ◌+◌, refl, sym, ap, ◌∙◌, subst, Decides, arith}
use Rattle.std.specs.List.{list_any, position_or_len}
use Rattle.std.proofs.lemmas.Bool.{false≢true}
use Rattle.std.proofs.lemmas.List.{append_assoc, append-nil}
use Rattle.wt_form_table.specs.Entries.{First, GoesOn}

-- an entry has one first place
pub one_place : {X : Type 0} (T : List X) (m n : ℕ) (c : X) → First T m c → First T n c → m ≡ n
one_place [] m n c h k = absurd h
one_place (x ∷ T) zero zero c h k = refl
one_place (x ∷ T) zero (suc n) c h k = absurd (k.0 h)
one_place (x ∷ T) (suc m) zero c h k = absurd (h.0 k)
one_place (x ∷ T) (suc m) (suc n) c h k = ap suc (one_place T m n c h.1 k.1)

-- a place has one entry
pub one_entry : {X : Type 0} (T : List X) (n : ℕ) (c d : X) → First T n c → First T n d → c ≡ d
one_entry [] n c d h k = absurd h
one_entry (x ∷ T) zero c d h k = sym h ∙ k
one_entry (x ∷ T) (suc n) c d h k = one_entry T n c d h.1 k.1

first_before : {X : Type 0} (T rest : List X) (n : ℕ) (c : X) → First T n c → First (T ++ rest) n c
first_before [] rest n c h = absurd h
first_before (x ∷ T) rest zero c h = h
first_before (x ∷ T) rest (suc n) c h = (h.0, first_before T rest n c h.1)

-- the place stays where the table goes on
pub first_stays : {X : Type 0} (T U : List X) (n : ℕ) (c : X) → GoesOn T U → First T n c → First U n c
first_stays T U n c goes h = subst (λ V. First V n c) (sym goes.1) (first_before T goes.0 n c h)

pub goes_on : {X : Type 0} (T U V : List X) → GoesOn T U → GoesOn U V → GoesOn T V
goes_on T U V g h = (g.0 ++ h.0, h.1 ∙ ap (λ W. W ++ h.0) g.1 ∙ append_assoc T g.0 h.0)

one_more : (n : ℕ) → suc n ≡ 1 + n
one_more n = omega arith

-- where an entry is put: p tells whether an entry is the one that is put
module _ {X : Type 0} (c : X) (p : X → Bool) (sound : (y : X) → p y ≡ true → c ≡ y) (whole : (y : X) → c ≡ y → p y ≡ true) where
  found : (T : List X) → list_any p T ≡ true → First T (position_or_len p T) c
  found [] e = absurd (false≢true e)
  found (x ∷ T) e = here (p x) refl e (found T)
    where
      here : (b : Bool) → p x ≡ b → (b || list_any p T) ≡ true → (list_any p T ≡ true → First T (position_or_len p T) c) → First (x ∷ T) (cond (not b) (1 + position_or_len p T) 0) c
      here true is t ih = sym (sound x is)
      here false is t ih = subst (λ m. First (x ∷ T) m c) (one_more (position_or_len p T)) (λ same. false≢true (sym is ∙ whole x (sym same)), ih t)

  absent : (T : List X) → list_any p T ≡ false → First (T ++ c ∷ []) (position_or_len p T) c
  absent [] e = refl
  absent (x ∷ T) e = here (p x) refl e (absent T)
    where
      here : (b : Bool) → p x ≡ b → (b || list_any p T) ≡ false → (list_any p T ≡ false → First (T ++ c ∷ []) (position_or_len p T) c) →
          First (x ∷ (T ++ c ∷ [])) (cond (not b) (1 + position_or_len p T) 0) c
      here true is t ih = absurd (false≢true (sym t))
      here false is t ih = subst (λ m. First (x ∷ (T ++ c ∷ [])) m c) (one_more (position_or_len p T)) (λ same. false≢true (sym is ∙ whole x (sym same)), ih t)

  put_first : (T : List X) → First (cond (list_any p T) T (T ++ c ∷ [])) (position_or_len p T) c
  put_first T = here (list_any p T) refl
    where
      here : (b : Bool) → list_any p T ≡ b → First (cond b T (T ++ c ∷ [])) (position_or_len p T) c
      here true e = found T e
      here false e = absent T e

  put_goes : (T : List X) → GoesOn T (cond (list_any p T) T (T ++ c ∷ []))
  put_goes T = here (list_any p T)
    where
      here : (b : Bool) → GoesOn T (cond b T (T ++ c ∷ []))
      here true = ([], sym (append-nil T))
      here false = (c ∷ [], refl)

-- as the call has it
pub put : {X : Type 0} (c : X) (p : X → Bool) (T U : List X) (n : ℕ) → U ≡ cond (list_any p T) T (T ++ c ∷ []) → n ≡ position_or_len p T → ((y : X) → Decides (p y) (c ≡ y)) → First U n c × GoesOn T U
put c p T U n e f decides = (
  subst (λ V. First V n c) (sym e) (subst (λ m. First (cond (list_any p T) T (T ++ c ∷ [])) m c) (sym f) (put_first c p (λ y. (decides y).0) (λ y. (decides y).1) T)),
  subst (GoesOn T) (sym e) (put_goes c p (λ y. (decides y).0) (λ y. (decides y).1) T),
)
