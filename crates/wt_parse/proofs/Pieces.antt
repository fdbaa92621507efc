-- Pieces of a list that grow by one, and the statements that they are.
use Rattle.std.proofs.Common.{◌≡◌, ℕ, suc, zero, ◌+◌, ◌-◌, ◌<◌, ◌≤◌, Bool, true, false, List, [], ◌∷◌, ◌++◌, length, take, drop, refl, ap, sym, ◌∙◌, arith, append_assoc, append-nil, Some, subst, nat_lt, ◌==◌, length-drop, eq-eqb, Ok}
use Rattle.std.specs.Prelude.{map, filter, slice_get}
use Rattle.std.proofs.lemmas.List.{map-append}
use Rattle.wt_lex.specs.declared.token.Token.{Token}
use Rattle.wt_front.proofs.More.{slice_more}
use Rattle.wt_parse.specs.declared.statements.Piece.{Piece}
use Rattle.wt_parse.specs.Held.{piece, kept, shown, Holds}
use Rattle.std.specs.List.{All}
use Rattle.std.proofs.lemmas.List.{length-take-le}
use Rattle.std.proofs.lemmas.Bool.{ltb-true, ltb-false, ne_eqb}
use Rattle.std.proofs.lemmas.List.Elements.{All-append, filter-append}
use Rattle.wt_lex.specs.Tokens.{lexed}
use Rattle.wt_grammar.specs.Statements.{Statement, is_semicolon, add, cut, has_tokens, statements}

-- tokens in front of the first statement
abbrev pub in_front : List Token → List Statement → List Statement
in_front xs [] = []
in_front xs (s ∷ rest) = record { tokens = xs ++ s.tokens; end = s.end } ∷ rest

pub in_front_none : (ss : List Statement) → in_front [] ss ≡ ss
in_front_none [] = refl
in_front_none (s ∷ rest) = refl

pub in_front_add : (xs : List Token) (t : Token) (ss : List Statement) → in_front xs (add t ss) ≡ in_front (xs ++ t ∷ []) ss
in_front_add xs t [] = refl
in_front_add xs t (s ∷ rest) = ap (λ l. record { tokens = l; end = s.end } ∷ rest) (sym (append_assoc xs (t ∷ []) s.tokens))

pub drop_here : {A : Type 0} (xs : List A) (i : ℕ) (x : A) → slice_get xs i ≡ Some x → drop i xs ≡ x ∷ drop (i + 1) xs
drop_here [] zero x g = absurd cc
drop_here [] (suc i) x g = absurd cc
drop_here (y ∷ xs) zero x g = let e : y ≡ x = cc in ap (λ z. z ∷ xs) e
drop_here (y ∷ xs) (suc i) x g = let e : suc (i + 1) ≡ suc i + 1 = omega arith in drop_here xs i x g ∙ ap (λ n. x ∷ drop n (y ∷ xs)) e

pub cut_mark : (size : ℕ) (t : Token) (ts : List Token) → is_semicolon t.kind ≡ true → cut size (t ∷ ts) ≡ record { tokens = []; end = t.start } ∷ cut size ts
cut_mark size t ts h = rw h

pub cut_token : (size : ℕ) (t : Token) (ts : List Token) → is_semicolon t.kind ≡ false → cut size (t ∷ ts) ≡ add t (cut size ts)
cut_token size t ts h = rw h

-- what is left to cut from a place on, where the piece at hand began at `from`
abbrev pub left : ℕ → List Token → ℕ → ℕ → List Statement
left size tokens from i = in_front (take (i - from) (drop from tokens)) (cut size (drop i tokens))

pub left_starts : (size : ℕ) (tokens : List Token) → left size tokens 0 0 ≡ cut size tokens
left_starts size tokens = in_front_none (cut size tokens)

pub left_token : (size : ℕ) (tokens : List Token) (from i : ℕ) (t : Token) → from ≤ i → slice_get tokens i ≡ Some t → is_semicolon t.kind ≡ false
    → left size tokens from (i + 1) ≡ left size tokens from i
left_token size tokens from i t h g no_mark =
    ap (λ xs. in_front xs (cut size (drop (i + 1) tokens))) (slice_more from tokens i t h g)
    ∙ sym (in_front_add (take (i - from) (drop from tokens)) t (cut size (drop (i + 1) tokens)))
    ∙ ap (in_front (take (i - from) (drop from tokens))) (sym (ap (cut size) (drop_here tokens i t g) ∙ cut_token size t (drop (i + 1) tokens) no_mark))

pub left_mark : (size : ℕ) (tokens : List Token) (from i : ℕ) (t : Token) → slice_get tokens i ≡ Some t → is_semicolon t.kind ≡ true
    → left size tokens from i ≡ piece tokens from i t.start ∷ left size tokens (i + 1) (i + 1)
left_mark size tokens from i t g mark =
    ap (in_front (take (i - from) (drop from tokens))) (ap (cut size) (drop_here tokens i t g) ∙ cut_mark size t (drop (i + 1) tokens) mark)
    ∙ (λ j. record { tokens = append-nil (take (i - from) (drop from tokens)) j; end = t.start } ∷ sym (none_in_front (i + 1)) j)
  where
    none_in_front : (n : ℕ) → left size tokens n n ≡ cut size (drop n tokens)
    none_in_front n = let e : n - n ≡ 0 = omega arith in ap (λ k. in_front (take k (drop n tokens)) (cut size (drop n tokens))) e ∙ in_front_none (cut size (drop n tokens))

pub drop_all : {A : Type 0} (xs : List A) (n : ℕ) → length xs ≤ n → drop n xs ≡ []
drop_all [] zero h = refl
drop_all [] (suc n) h = refl
drop_all (x ∷ xs) zero h = absurd (omega arith)
drop_all (x ∷ xs) (suc n) h = drop_all xs n (omega arith)

pub left_ends : (size : ℕ) (tokens : List Token) (from i : ℕ) → length tokens ≤ i → left size tokens from i ≡ piece tokens from i size ∷ []
left_ends size tokens from i h =
    ap (λ l. in_front (take (i - from) (drop from tokens)) (cut size l)) (drop_all tokens i h)
    ∙ (λ j. record { tokens = append-nil (take (i - from) (drop from tokens)) j; end = size } ∷ [])

pub shown_kept : (tokens : List Token) (from to end : ℕ) → to ≤ length tokens → map (shown tokens) (kept from to end) ≡ filter has_tokens (piece tokens from to end ∷ [])
shown_kept tokens from to end within = by (nat_lt from to) refl
  where
    size : length (take (to - from) (drop from tokens)) ≡ to - from
    size = length-take-le (to - from) (drop from tokens) (omega (arith, length-drop from tokens))

    by : (b : Bool) → nat_lt from to ≡ b → map (shown tokens) (kept from to end) ≡ filter has_tokens (piece tokens from to end ∷ [])
    by true e =
        let some : (length (take (to - from) (drop from tokens)) == 0) ≡ false = ne_eqb _ _ (λ h. omega (arith, ltb-true from to e, size)) in
        rw (e, some)
    by false e =
        let none : (length (take (to - from) (drop from tokens)) == 0) ≡ true = eq-eqb _ _ (omega (arith, ltb-false from to e, size)) in
        rw (e, none)

all_one : {A : Type 0} (P : A → Type 0) (x : A) → P x → All P (x ∷ [])
all_one P x h zero d l = h
all_one P x h (suc k) d l = absurd (omega arith)

pub holds_kept : (tokens : List Token) (from to end : ℕ) → to ≤ length tokens → All (Holds tokens) (kept from to end)
holds_kept tokens from to end within = by (nat_lt from to) refl
  where
    by : (b : Bool) → nat_lt from to ≡ b → All (Holds tokens) (kept from to end)
    by true e = rw e (all_one (Holds tokens) (record { from = from; to = to; end = end }) (ltb-true from to e, within))
    by false e = rw e (λ k d h. absurd (omega arith))

-- what was cut so far, and what is left to cut
abbrev pub CutTo : ℕ → List Token → List Piece → ℕ → ℕ → Type 0
CutTo size tokens pieces from i = map (shown tokens) pieces ++ filter has_tokens (left size tokens from i) ≡ statements size tokens

pub cut_token_more : (size : ℕ) (tokens : List Token) (old new : List Piece) (from next i : ℕ) (t : Token) → from ≤ i → slice_get tokens i ≡ Some t
    → is_semicolon t.kind ≡ false → next ≡ from → new ≡ old → CutTo size tokens old from i → CutTo size tokens new next (i + 1)
cut_token_more size tokens old new from next i t order g other n e h =
    (λ j. map (shown tokens) (e j) ++ filter has_tokens (left size tokens (n j) (i + 1)))
    ∙ ap (λ l. map (shown tokens) old ++ filter has_tokens l) (left_token size tokens from i t order g other) ∙ h

-- a piece that is kept stands behind the others
kept_behind : (tokens : List Token) (old : List Piece) (from to end : ℕ) (rest : List Statement) → to ≤ length tokens
    → map (shown tokens) (old ++ kept from to end) ++ filter has_tokens rest ≡ map (shown tokens) old ++ filter has_tokens (piece tokens from to end ∷ rest)
kept_behind tokens old from to end rest within =
    ap (λ l. l ++ filter has_tokens rest) (map-append (shown tokens) old (kept from to end) ∙ ap (λ l. map (shown tokens) old ++ l) (shown_kept tokens from to end within))
    ∙ append_assoc (map (shown tokens) old) (filter has_tokens (piece tokens from to end ∷ [])) (filter has_tokens rest)
    ∙ ap (λ l. map (shown tokens) old ++ l) (sym (filter-append has_tokens (piece tokens from to end ∷ []) rest))

pub cut_mark_more : (size : ℕ) (tokens : List Token) (old new : List Piece) (from next i : ℕ) (t : Token) → i < length tokens → slice_get tokens i ≡ Some t
    → is_semicolon t.kind ≡ true → next ≡ i + 1 → new ≡ old ++ kept from i t.start → CutTo size tokens old from i → CutTo size tokens new next (i + 1)
cut_mark_more size tokens old new from next i t within g mark n e h =
    (λ j. map (shown tokens) (e j) ++ filter has_tokens (left size tokens (n j) (i + 1)))
    ∙ kept_behind tokens old from i t.start (left size tokens (i + 1) (i + 1)) (omega arith)
    ∙ ap (λ l. map (shown tokens) old ++ filter has_tokens l) (sym (left_mark size tokens from i t g mark)) ∙ h

pub cut_ends : (size : ℕ) (tokens : List Token) (old new : List Piece) (from i : ℕ) → i ≤ length tokens → length tokens ≤ i → new ≡ old ++ kept from i size
    → CutTo size tokens old from i → map (shown tokens) new ≡ statements size tokens
cut_ends size tokens old new from i within past e h =
    ap (map (shown tokens)) e ∙ sym (append-nil (map (shown tokens) (old ++ kept from i size))) ∙ kept_behind tokens old from i size [] within
    ∙ ap (λ l. map (shown tokens) old ++ filter has_tokens l) (sym (left_ends size tokens from i past)) ∙ h

pub holds_more : (tokens : List Token) (old new : List Piece) (from to end : ℕ) → to ≤ length tokens → new ≡ old ++ kept from to end → All (Holds tokens) old → All (Holds tokens) new
holds_more tokens old new from to end within e h = subst (All (Holds tokens)) (sym e) (All-append (Holds tokens) old (kept from to end) h (holds_kept tokens from to end within))

-- what falls into tokens is no longer than a text may be
pub is_short : (bytes : List ℕ) (tokens : List Token) → lexed bytes ≡ Ok tokens → length bytes ≤ 16777216
unfolding lexed
is_short bytes tokens h = by (nat_lt 16777216 (length bytes)) refl
  where
    by : (b : Bool) → nat_lt 16777216 (length bytes) ≡ b → length bytes ≤ 16777216
    by true e = let z = rw e at h in absurd cc
    by false e = ltb-false 16777216 (length bytes) e

-- one token is taken
pub turn : (size : ℕ) (tokens : List Token) (old new : List Piece) (from next i : ℕ) (t : Token) → from ≤ i → i < length tokens → slice_get tokens i ≡ Some t
    → (is_semicolon t.kind ≡ true → (next ≡ i + 1) × (new ≡ old ++ kept from i t.start)) → (is_semicolon t.kind ≡ false → (next ≡ from) × (new ≡ old))
    → CutTo size tokens old from i → All (Holds tokens) old → (next ≤ i + 1) × CutTo size tokens new next (i + 1) × All (Holds tokens) new
turn size tokens old new from next i t order within g mark other h held = by (is_semicolon t.kind) refl
  where
    by : (b : Bool) → is_semicolon t.kind ≡ b → (next ≤ i + 1) × CutTo size tokens new next (i + 1) × All (Holds tokens) new
    by true e =
        let (n, l) = mark e in
        (omega arith, cut_mark_more size tokens old new from next i t within g e n l h, holds_more tokens old new from i t.start (omega arith) l held)
    by false e =
        let (n, l) = other e in
        (omega arith, cut_token_more size tokens old new from next i t order g e n l h, subst (All (Holds tokens)) (sym l) held)
