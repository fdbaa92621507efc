-- A text falls into pieces, and is cut into their tokens.
use Rattle.std.proofs.Common.{◌≡◌, ℕ, suc, zero, ◌+◌, ◌-◌, ◌≤◌, Bool, true, false, ◌⊎◌, inl, inr, List, [], ◌∷◌, ◌++◌, length, refl, ap, sym, subst, ◌∙◌, arith, append_assoc, append-nil, length-append, Result, Ok, Err}
use Rattle.std.specs.Prelude.{if◌then◌else◌, nat_lt}
use Rattle.std.specs.Str.{IsUtf8, is_utf8}
use Rattle.std.specs.Str.Lossy.{utf8_valid_len}
use Rattle.std.proofs.Math.Seq.{drop-append_seam}
use Rattle.wt_lex.specs.declared.token.LexFault.{LexFault}
use Rattle.wt_lex.specs.declared.token.LexFault.TheVariants as fault
use Rattle.wt_lex.specs.declared.token.Sym.{Sym}
use Rattle.wt_lex.specs.declared.token.Sym.TheVariants as symbols
use Rattle.wt_lex.specs.declared.token.Token.{Token}
use Rattle.wt_lex.specs.declared.token.TokenKind.{TokenKind}
use Rattle.wt_lex.specs.declared.token.TokenKind.TheVariants.{Word, Quoted, Number, Text, Symbol, Odd}
use Rattle.wt_lex.specs.Fronts.{len_of}
use Rattle.wt_lex.specs.Tokens as cut
use Rattle.wt_lex.specs.Tokens.{lexed, tokens_from, before, is_closed, open_quote}
use Rattle.wt_lex.specs.Spelling.{Piece, gap, item, spoiled, written, IsPiece, IsItem, IsOdd, IsOpen, FallsInto, Joined, symbol_written, made, tokens_at, all_written}
use Rattle.wt_lex.proofs.Beginning.{Begins, begins}
use Rattle.wt_lex.proofs.Cutting.{tokens_next, tokens_open, tokens_none}
use Rattle.wt_lex.proofs.Fronting.{front_of, piece_front, open_front}
use Rattle.wt_lex.proofs.Lexing.{lexed_ok, lexed_text}

-- ---- a piece has a byte

odd_some : (f : LexFault) (w rest : List ℕ) → IsOdd (Odd f) w rest → 1 ≤ length w
odd_some f w rest (inl (is, (e, ends))) = omega (arith, ap length e)
odd_some f w rest (inr (inl (b, is, e, h))) = omega (arith, ap length e)
odd_some f w rest (inr (inr h)) = h.0.0

item_some : (k : TokenKind) (w rest : List ℕ) → IsItem k w rest → 1 ≤ length w
item_some Word w rest (b, c, e, h, all, ends) = omega (arith, ap length e)
item_some Quoted w rest (name, some, (e, ends)) = omega (arith, ap length e)
item_some (Number n) w rest h = h.0.0
item_some Text w rest (text, (e, ends)) = omega (arith, ap length e)
item_some (Symbol s) w rest (e, h) = by s e
  where
    by : (s : Sym) → w ≡ symbol_written s → 1 ≤ length w
    by symbols.Open e = omega (arith, ap length e)
    by symbols.Close e = omega (arith, ap length e)
    by symbols.Comma e = omega (arith, ap length e)
    by symbols.Dot e = omega (arith, ap length e)
    by symbols.Semi e = omega (arith, ap length e)
    by symbols.Star e = omega (arith, ap length e)
    by symbols.Eq e = omega (arith, ap length e)
    by symbols.NotEq e = omega (arith, ap length e)
    by symbols.BangEq e = omega (arith, ap length e)
    by symbols.Lt e = omega (arith, ap length e)
    by symbols.Le e = omega (arith, ap length e)
    by symbols.Gt e = omega (arith, ap length e)
    by symbols.Ge e = omega (arith, ap length e)
    by symbols.Plus e = omega (arith, ap length e)
    by symbols.Minus e = omega (arith, ap length e)
    by symbols.Slash e = omega (arith, ap length e)
    by symbols.Percent e = omega (arith, ap length e)
    by symbols.Bars e = omega (arith, ap length e)
    by symbols.ColonColon e = omega (arith, ap length e)
    by symbols.Colon e = omega (arith, ap length e)
    by symbols.Question e = omega (arith, ap length e)
    by symbols.Dollar e = omega (arith, ap length e)
item_some (Odd f) w rest h = odd_some f w rest h

pub piece_some : (p : Piece) (rest : List ℕ) → IsPiece p rest → 1 ≤ length (written p)
piece_some (gap w) rest (inl (b, e, h)) = omega (arith, ap length e)
piece_some (gap w) rest (inr (inl (c, e, all, ends))) = omega (arith, ap length e)
piece_some (gap w) rest (inr (inr (c, e, h))) = omega (arith, ap length e)
piece_some (item k w) rest h = item_some k w rest h
piece_some (spoiled k w b) rest h = omega (arith, length-append w (b ∷ []))

-- ---- every text falls

abbrev Falls : List ℕ → Type 0
Falls z = (ps : List Piece) × (left : List ℕ) × FallsInto ps left z × ((left ≡ []) ⊎ IsOpen left)

falls_to : (bound : ℕ) (z : List ℕ) → length z ≤ bound → Falls z
falls_to bound [] h = ([], [], refl, inl refl)
falls_to zero (b ∷ y) h = absurd (omega arith)
falls_to (suc bound) (b ∷ y) h = by (begins b y) (falls_to bound)
  where
    by : Begins (b ∷ y) → ((z : List ℕ) → length z ≤ bound → Falls z) → Falls (b ∷ y)
    by (inl (p, rest, e, is)) next =
        let (ps, left, f, end) = next rest (omega (arith, h, piece_some p rest is, ap length e, length-append (written p) rest)) in
        (p ∷ ps, left, (rest, e, is, f), end)
    by (inr is_open) next = ([], b ∷ y, refl, inr is_open)

pub falls : (z : List ℕ) → Falls z
falls z = falls_to (length z) z (omega arith)

-- ---- and is cut into the tokens of its pieces

-- where the pieces end
abbrev end_of : ℕ → List Piece → ℕ
end_of at [] = at
end_of at (p ∷ ps) = end_of (at + length (written p)) ps

before-append : (a b : List Token) (r : Result (List Token) ℕ) → before (a ++ b) r ≡ before a (before b r)
before-append a b (Ok others) = ap Ok (append_assoc a b others)
before-append a b (Err at) = refl

before_none : (r : Result (List Token) ℕ) → before [] r ≡ r
before_none (Ok ts) = refl
before_none (Err at) = refl

len_is : (p : Piece) → len_of (front_of p) ≡ length (written p)
len_is (gap w) = refl
len_is (item k w) = refl
len_is (spoiled k w b) = omega (arith, length-append w (b ∷ []))

closed_is : (p : Piece) → is_closed (front_of p) ≡ true
closed_is (gap w) = refl
closed_is (item k w) = refl
closed_is (spoiled k w b) = refl

made_is : (at : ℕ) (p : Piece) → cut.made at (front_of p) ≡ made at p
made_is at (gap w) = refl
made_is at (item k w) = refl
made_is at (spoiled k w b) = refl

one_cut : (at : ℕ) (p : Piece) (rest : List ℕ) → IsPiece p rest → tokens_from at 0 (written p ++ rest) ≡ before (made at p) (tokens_from (at + length (written p)) 0 rest)
one_cut at p rest h =
    let e = piece_front p rest h in
    let some = piece_some p rest h in
    tokens_next at (length (written p)) (written p ++ rest) (omega (arith, some, length-append (written p) rest)) (ap len_of e ∙ len_is p) some (ap is_closed e ∙ closed_is p)
    ∙ (λ i. before (cut.made at (e i)) (tokens_from (at + length (written p)) 0 (drop-append_seam (written p) rest i)))
    ∙ ap (λ ts. before ts (tokens_from (at + length (written p)) 0 rest)) (made_is at p)

pub cut_falls : (ps : List Piece) (left z : List ℕ) (at : ℕ) → FallsInto ps left z → tokens_from at 0 z ≡ before (tokens_at at ps) (tokens_from (end_of at ps) 0 left)
cut_falls [] left z at h = ap (tokens_from at 0) h ∙ sym (before_none (tokens_from at 0 left))
cut_falls (p ∷ ps) left z at (rest, e, is, f) =
    ap (tokens_from at 0) e ∙ one_cut at p rest is
    ∙ ap (before (made at p)) (cut_falls ps left rest (at + length (written p)) f)
    ∙ sym (before-append (made at p) (tokens_at (at + length (written p)) ps) _)

ends_at : (ps : List Piece) (left z : List ℕ) (at : ℕ) → FallsInto ps left z → end_of at ps + length left ≡ at + length z
ends_at [] left z at h = ap (λ l. at + length l) (sym h)
ends_at (p ∷ ps) left z at (rest, e, is, f) = ends_at ps left rest (at + length (written p)) f ∙ omega (arith, ap length e, length-append (written p) rest)

-- ---- whole texts

ok_cut : (ps : List Piece) (z : List ℕ) → FallsInto ps [] z → tokens_from 0 0 z ≡ Ok (tokens_at 0 ps)
ok_cut ps z h = cut_falls ps [] z 0 h ∙ ap (before (tokens_at 0 ps)) (tokens_none (end_of 0 ps) [] refl) ∙ ap Ok (append-nil (tokens_at 0 ps))

open_cut : (ps : List Piece) (left z : List ℕ) → FallsInto ps left z → IsOpen left → tokens_from 0 0 z ≡ Err (end_of 0 ps)
open_cut ps left z h is =
    let (e, some) = open_front left is in
    cut_falls ps left z 0 h ∙ ap (before (tokens_at 0 ps)) (tokens_open (end_of 0 ps) left some (ap is_closed e))

-- what has tokens falls into them
pub tokens_fall : (bytes : List ℕ) (ts : List Token) → lexed bytes ≡ Ok ts → (ps : List Piece) × FallsInto ps [] bytes × (ts ≡ tokens_at 0 ps)
tokens_fall bytes ts h = by (falls bytes)
  where
    by : Falls bytes → (ps : List Piece) × FallsInto ps [] bytes × (ts ≡ tokens_at 0 ps)
    by (ps, left, f, inl none) =
        let whole : FallsInto ps [] bytes = subst (λ l. FallsInto ps l bytes) none f in
        let e : Ok ts ≡ Ok (tokens_at 0 ps) = sym (lexed_ok bytes ts h).2 ∙ ok_cut ps bytes whole in
        (ps, whole, cc)
    by (ps, left, f, inr is) = let e = sym (lexed_ok bytes ts h).2 ∙ open_cut ps left bytes f is in absurd cc

-- and what falls into pieces has their tokens
pub falls_have : (bytes : List ℕ) (ps : List Piece) → length bytes ≤ 16777216 → IsUtf8 bytes → FallsInto ps [] bytes → lexed bytes ≡ Ok (tokens_at 0 ps)
falls_have bytes ps few text h = lexed_text bytes few text ∙ ap open_quote (ok_cut ps bytes h)

-- what falls up to a quote or comment that is not closed is refused there
pub open_refused : (bytes left : List ℕ) (ps : List Piece) → length bytes ≤ 16777216 → IsUtf8 bytes → FallsInto ps left bytes → IsOpen left
    → lexed bytes ≡ Err (fault.OpenQuote, length bytes - length left)
open_refused bytes left ps few text h is =
    let place : end_of 0 ps ≡ length bytes - length left = omega (arith, ends_at ps left bytes 0 h) in
    lexed_text bytes few text ∙ ap open_quote (open_cut ps left bytes h is) ∙ ap (λ n. Err (fault.OpenQuote, n)) place

open_place : (r : Result (List Token) ℕ) (at : ℕ) → open_quote r ≡ Err (fault.OpenQuote, at) → r ≡ Err at
open_place (Ok ts) at e = absurd cc
open_place (Err place) at e = let p : ◌≡◌ {A = LexFault × ℕ} (fault.OpenQuote, place) (fault.OpenQuote, at) = cc in ap (λ x. Err x.1) p

-- what is refused for that is cut up to there
open_text : (bytes : List ℕ) (at : ℕ) → lexed bytes ≡ Err (fault.OpenQuote, at) → tokens_from 0 0 bytes ≡ Err at
unfolding lexed
open_text bytes at = by (nat_lt 16777216 (length bytes)) (is_utf8 bytes)
  where
    by : (s t : Bool) → (if s then Err (fault.TooLong, 16777216) else (if t then open_quote (tokens_from 0 0 bytes) else Err (fault.NotText, utf8_valid_len bytes))) ≡ Err (fault.OpenQuote, at) → tokens_from 0 0 bytes ≡ Err at
    by true t e = let p : ◌≡◌ {A = LexFault × ℕ} (fault.TooLong, 16777216) (fault.OpenQuote, at) = cc in let f : fault.TooLong ≡ fault.OpenQuote = ap (λ x. x.0) p in absurd cc
    by false true e = open_place (tokens_from 0 0 bytes) at e
    by false false e = let p : ◌≡◌ {A = LexFault × ℕ} (fault.NotText, utf8_valid_len bytes) (fault.OpenQuote, at) = cc in let f : fault.NotText ≡ fault.OpenQuote = ap (λ x. x.0) p in absurd cc

err_is : (a b : ℕ) → ◌≡◌ {A = Result (List Token) ℕ} (Err a) (Err b) → a ≡ b
err_is a b e = cc

pub refused_open : (bytes : List ℕ) (at : ℕ) → lexed bytes ≡ Err (fault.OpenQuote, at)
    → (ps : List Piece) × (left : List ℕ) × FallsInto ps left bytes × IsOpen left × (at ≡ length bytes - length left)
refused_open bytes at h = by (falls bytes)
  where
    by : Falls bytes → (ps : List Piece) × (left : List ℕ) × FallsInto ps left bytes × IsOpen left × (at ≡ length bytes - length left)
    by (ps, left, f, inl none) = let e = sym (open_text bytes at h) ∙ ok_cut ps bytes (subst (λ l. FallsInto ps l bytes) none f) in absurd cc
    by (ps, left, f, inr is) =
        let e : at ≡ end_of 0 ps = err_is at (end_of 0 ps) (sym (open_text bytes at h) ∙ open_cut ps left bytes f is) in
        (ps, left, f, is, omega (arith, e, ends_at ps left bytes 0 f))

-- pieces that may stand one behind another are what their bytes fall into
pub joined_fall : (ps : List Piece) → Joined ps → FallsInto ps [] (all_written ps)
joined_fall [] h = refl
joined_fall (p ∷ ps) h = (all_written ps, refl, h.0, joined_fall ps h.1)
