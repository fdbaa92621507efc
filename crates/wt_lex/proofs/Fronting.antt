-- What stands at the front of a text that begins with a piece, or with a quote or comment that is not closed.
use Rattle.std.proofs.Common.{◌≡◌, ℕ, ◌+◌, ◌<◌, ◌≤◌, Bool, true, false, inl, inr, List, [], ◌∷◌, ◌++◌, length, take, get_or, refl, ap, sym, subst, ◌∙◌, arith, append_assoc, length-append, Option, Some, None}
use Rattle.std.specs.Prelude.{if◌then◌else◌, ◌==◌, ◌&&◌, slice_index}
use Rattle.std.specs.Char.{is_ascii_digit}
use Rattle.std.proofs.lemmas.Bool.Decides.{nat_tests}
use Rattle.std.proofs.Math.Seq.{take-append_seam, get_or-append_seam}
use Rattle.wt_lex.specs.declared.front.Front.{Front}
use Rattle.wt_lex.specs.declared.front.Front.TheVariants.{Gap, Item, Spoiled, Unclosed}
use Rattle.wt_lex.specs.declared.token.LexFault.TheVariants as fault
use Rattle.wt_lex.specs.declared.token.Sym.{Sym}
use Rattle.wt_lex.specs.declared.token.Sym.TheVariants as symbols
use Rattle.wt_lex.specs.declared.token.TokenKind.{TokenKind}
use Rattle.wt_lex.specs.declared.token.TokenKind.TheVariants.{Word, Quoted, Number, Text, Symbol, Odd}
use Rattle.wt_lex.specs.Fronts.{front, is_blank, begins_word, spoils, number, number_kind, closing, comment_end, closed_text, closed_name, closed_comment, long_symbol, short_symbol, longest}
use Rattle.wt_lex.specs.Spelling.{Piece, gap, item, spoiled, written, EndsBefore, Are, in_line, goes_on_word, AreDigits, IsNumber, IsItem, IsPiece, IsGap, IsWord, IsLongest, IsBad, IsMark, IsOpen, HasNoEnd, doubled, quoted, symbol_written}
use Rattle.wt_lex.proofs.Splits.{are_cons, are_parts, run_length, closing_doubled, closing_open, comment_closes, comment_open, quote_is}
use Rattle.wt_lex.proofs.Symbols.{long_written, short_written, long_zero}

abbrev pub front_of : Piece → Front
front_of (gap w) = Gap (length w)
front_of (item k w) = Item k (length w)
front_of (spoiled k w b) = Spoiled k (length w)

-- ---- gaps

blank_front : (b : ℕ) (rest : List ℕ) → is_blank b ≡ true → front (b ∷ rest) ≡ Gap 1
unfolding front
blank_front b rest h = rw h

line_front : (c rest : List ℕ) → Are in_line c → EndsBefore in_line rest → front (45 ∷ 45 ∷ (c ++ rest)) ≡ Gap (length (45 ∷ 45 ∷ c))
unfolding front
line_front c rest all ends = ap (λ n. Gap (2 + n)) (run_length in_line c rest all ends) ∙ ap Gap (omega arith)

block_front : (c rest : List ℕ) → HasNoEnd (c ++ 42 ∷ []) → front (47 ∷ 42 ∷ ((c ++ 42 ∷ 47 ∷ []) ++ rest)) ≡ Gap (length (47 ∷ 42 ∷ (c ++ 42 ∷ 47 ∷ [])))
unfolding front
block_front c rest h =
    ap (λ l. closed_comment (comment_end false 2 l)) (append_assoc c (42 ∷ 47 ∷ []) rest)
    ∙ ap closed_comment (comment_closes false 2 c rest h)
    ∙ ap Gap (omega (arith, length-append c (42 ∷ 47 ∷ [])))

gap_front : (w rest : List ℕ) → IsGap w rest → front (w ++ rest) ≡ Gap (length w)
gap_front w rest (inl (b, e, h)) = ap (λ l. front (l ++ rest)) e ∙ blank_front b rest h ∙ ap (λ l. Gap (length l)) (sym e)
gap_front w rest (inr (inl (c, e, all, ends))) = ap (λ l. front (l ++ rest)) e ∙ line_front c rest all ends ∙ ap (λ l. Gap (length l)) (sym e)
gap_front w rest (inr (inr (c, e, h))) = ap (λ l. front (l ++ rest)) e ∙ block_front c rest h ∙ ap (λ l. Gap (length l)) (sym e)

-- ---- words and numbers

word_no_blank : (b : ℕ) → begins_word b ≡ true → is_blank b ≡ false
word_no_blank b h = grind (arith, nat_tests)

word_goes_on : (b : ℕ) → begins_word b ≡ true → goes_on_word b ≡ true
word_goes_on b h = grind (arith, nat_tests)

digit_no_blank : (b : ℕ) → is_ascii_digit b ≡ true → is_blank b ≡ false
digit_no_blank b h = grind (arith, nat_tests)

digit_no_word : (b : ℕ) → is_ascii_digit b ≡ true → begins_word b ≡ false
digit_no_word b h = grind (arith, nat_tests)

pub spoils_no_digit : (b : ℕ) → spoils b ≡ true → is_ascii_digit b ≡ false
spoils_no_digit b h = grind (arith, nat_tests)

word_at : (b : ℕ) (c rest : List ℕ) → begins_word b ≡ true → Are goes_on_word c → EndsBefore goes_on_word rest → front (b ∷ (c ++ rest)) ≡ Item Word (length (b ∷ c))
unfolding front
word_at b c rest h all ends =
    rw (word_no_blank b h, h) (ap (Item Word) (run_length goes_on_word (b ∷ c) rest (are_cons goes_on_word b c (word_goes_on b h) all) ends))

word_front : (w rest : List ℕ) → IsWord w rest → front (w ++ rest) ≡ Item Word (length w)
word_front w rest (b, c, e, h, all, ends) = ap (λ l. front (l ++ rest)) e ∙ word_at b c rest h all ends ∙ ap (λ l. Item Word (length l)) (sym e)

behind : (w : List ℕ) → get_or (w ++ []) (length w) 0 ≡ 0
behind [] = refl
behind (b ∷ w) = behind w

no_spoil : (w rest : List ℕ) → EndsBefore spoils rest → spoils (slice_index (w ++ rest) (length w)) ≡ false
no_spoil w [] h = ap spoils (behind w)
no_spoil w (b ∷ rest) h = ap spoils (get_or-append_seam w b rest 0) ∙ h

digit_front : (w rest : List ℕ) → 1 ≤ length w → Are is_ascii_digit w → front (w ++ rest) ≡ number (w ++ rest)
unfolding front
digit_front [] rest some all = absurd (omega arith)
digit_front (b ∷ w) rest some all = let h = (are_parts is_ascii_digit b w all).0 in rw (digit_no_blank b h, digit_no_word b h, h)

number_at : (w rest : List ℕ) → Are is_ascii_digit w → EndsBefore is_ascii_digit rest
    → number (w ++ rest) ≡ (if spoils (slice_index (w ++ rest) (length w)) then Spoiled (number_kind w) (length w) else Item (number_kind w) (length w))
number_at w rest all ends =
    ap (λ n. if spoils (slice_index (w ++ rest) n) then Spoiled (number_kind (take n (w ++ rest))) n else Item (number_kind (take n (w ++ rest))) n) (run_length is_ascii_digit w rest all ends)
    ∙ ap (λ l. if spoils (slice_index (w ++ rest) (length w)) then Spoiled (number_kind l) (length w) else Item (number_kind l) (length w)) (take-append_seam w rest)

number_front : (k : TokenKind) (w rest : List ℕ) → IsNumber k w rest → front (w ++ rest) ≡ Item k (length w)
number_front k w rest ((some, all, is), ends, clean) =
    digit_front w rest some all ∙ number_at w rest all ends
    ∙ ap (λ t. if t then Spoiled (number_kind w) (length w) else Item (number_kind w) (length w)) (no_spoil w rest clean)
    ∙ ap (λ k. Item k (length w)) (sym is)

spoiled_front : (k : TokenKind) (w rest : List ℕ) (b : ℕ) → AreDigits k w → spoils b ≡ true → front ((w ++ b ∷ []) ++ rest) ≡ Spoiled k (length w)
spoiled_front k w rest b (some, all, is) h =
    ap front (append_assoc w (b ∷ []) rest)
    ∙ digit_front w (b ∷ rest) some all ∙ number_at w (b ∷ rest) all (spoils_no_digit b h)
    ∙ ap (λ t. if t then Spoiled (number_kind w) (length w) else Item (number_kind w) (length w)) (ap spoils (get_or-append_seam w b rest 0) ∙ h)
    ∙ ap (λ k. Spoiled k (length w)) (sym is)

-- ---- quotes

closes : (q : ℕ) (bs rest : List ℕ) → EndsBefore (λ b. b == q) rest → closing q false 1 ((doubled q bs ++ q ∷ []) ++ rest) ≡ Some (length (quoted q bs))
closes q bs rest h =
    ap (closing q false 1) (append_assoc (doubled q bs) (q ∷ []) rest) ∙ closing_doubled q 1 bs rest h ∙ ap Some (omega (arith, length-append (doubled q bs) (q ∷ [])))

doubled_some : (q : ℕ) (bs : List ℕ) → 1 ≤ length bs → 1 ≤ length (doubled q bs)
doubled_some q [] h = absurd (omega arith)
doubled_some q (b ∷ bs) h = by (b == q) refl
  where
    by : (t : Bool) → (b == q) ≡ t → 1 ≤ length (doubled q (b ∷ bs))
    by true e = rw e (omega arith)
    by false e = rw e (omega arith)

closed_long : (n : ℕ) → 3 ≤ n → closed_name (Some n) ≡ Item Quoted n
closed_long n h = let e : (n == 2) ≡ false = grind (arith, nat_tests) in ap (λ t. if t then Item (Odd fault.BadCharacter) 2 else Item Quoted n) e

name_at : (name rest : List ℕ) → 1 ≤ length name → EndsBefore (λ b. b == 34) rest → front (quoted 34 name ++ rest) ≡ Item Quoted (length (quoted 34 name))
unfolding front
name_at name rest some ends =
    ap closed_name (closes 34 name rest ends)
    ∙ closed_long (length (quoted 34 name)) (omega (arith, length-append (doubled 34 name) (34 ∷ []), doubled_some 34 name some))

no_name_at : (rest : List ℕ) → EndsBefore (λ b. b == 34) rest → front (quoted 34 [] ++ rest) ≡ Item (Odd fault.BadCharacter) (length (quoted 34 []))
unfolding front
no_name_at rest ends = ap closed_name (closes 34 [] rest ends)

text_at : (text rest : List ℕ) → EndsBefore (λ b. b == 39) rest → front (quoted 39 text ++ rest) ≡ Item Text (length (quoted 39 text))
unfolding front
text_at text rest ends = ap closed_text (closes 39 text rest ends)

-- ---- symbols

not_with : (b x c : ℕ) → IsMark (b ∷ x ∷ []) → (IsMark (b ∷ c ∷ []) → ⊥) → (c == x) ≡ false
not_with b x c m none = by (c == x) refl
  where
    by : (t : Bool) → (c == x) ≡ t → t ≡ false
    by false e = refl
    by true e = absurd (none (subst (λ y. IsMark (b ∷ y ∷ [])) (sym (quote_is c x e)) m))

symbol_front : (s : Sym) (rest : List ℕ) → IsLongest (symbol_written s) rest → front (symbol_written s ++ rest) ≡ Item (Symbol s) (length (symbol_written s))
unfolding front
symbol_front symbols.Open rest h = refl
symbol_front symbols.Close rest h = refl
symbol_front symbols.Comma rest h = refl
symbol_front symbols.Dot rest h = refl
symbol_front symbols.Semi rest h = refl
symbol_front symbols.Star rest h = refl
symbol_front symbols.Eq rest h = refl
symbol_front symbols.NotEq rest h = refl
symbol_front symbols.BangEq rest h = refl
symbol_front symbols.Lt [] h = refl
symbol_front symbols.Lt (c ∷ z) h = let none = h c z refl in rw (not_with 60 62 c (inl (symbols.NotEq, refl)) none, not_with 60 61 c (inl (symbols.Le, refl)) none)
symbol_front symbols.Le rest h = refl
symbol_front symbols.Gt [] h = refl
symbol_front symbols.Gt (c ∷ z) h = rw (not_with 62 61 c (inl (symbols.Ge, refl)) (h c z refl))
symbol_front symbols.Ge rest h = refl
symbol_front symbols.Plus rest h = refl
symbol_front symbols.Minus [] h = refl
symbol_front symbols.Minus (c ∷ z) h = rw (not_with 45 45 c (inr (inl refl)) (h c z refl))
symbol_front symbols.Slash [] h = refl
symbol_front symbols.Slash (c ∷ z) h = rw (not_with 47 42 c (inr (inr refl)) (h c z refl))
symbol_front symbols.Percent rest h = refl
symbol_front symbols.Bars rest h = refl
symbol_front symbols.ColonColon rest h = refl
symbol_front symbols.Colon [] h = refl
symbol_front symbols.Colon (c ∷ z) h = rw (not_with 58 58 c (inl (symbols.ColonColon, refl)) (h c z refl))
symbol_front symbols.Question rest h = refl
symbol_front symbols.Dollar rest h = refl

-- ---- bytes that begin nothing

is_not : (b c : ℕ) → (b ≡ c → ⊥) → (b == c) ≡ false
is_not b c h = by (b == c) refl
  where
    by : (t : Bool) → (b == c) ≡ t → t ≡ false
    by false e = refl
    by true e = absurd (h (quote_is b c e))

short_none : (b : ℕ) → (IsMark (b ∷ []) → ⊥) → short_symbol b ≡ None
short_none b h = by (short_symbol b) refl
  where
    by : (r : Option Sym) → short_symbol b ≡ r → r ≡ None
    by None e = refl
    by (Some s) e = absurd (h (inl (s, short_written b s e)))

long_none : (b : ℕ) (rest : List ℕ) → IsLongest (b ∷ []) rest → long_symbol b (slice_index (b ∷ rest) 1) ≡ None
long_none b [] h = long_zero b
long_none b (c ∷ z) h = by (long_symbol b c) refl
  where
    by : (r : Option Sym) → long_symbol b c ≡ r → r ≡ None
    by None e = refl
    by (Some s) e = absurd (h c z refl (inl (s, long_written b c s e)))

else_of : {A : Type 0} (t : Bool) (x y z : A) → t ≡ false → y ≡ z → (if t then x else y) ≡ z
else_of t x y z h e = ap (λ t. if t then x else y) h ∙ e

and_no : (s t : Bool) → s ≡ false → (s && t) ≡ false
and_no s t h = ap (λ s. s && t) h

bad_front : (b : ℕ) (rest : List ℕ) → IsBad b rest → front (b ∷ rest) ≡ Item (Odd fault.BadCharacter) 1
unfolding front
bad_front b rest (blank, word, digit, name, text, none, h) =
    else_of _ _ _ _ blank (else_of _ _ _ _ word (else_of _ _ _ _ digit (else_of _ _ _ _ (is_not b 34 name) (else_of _ _ _ _ (is_not b 39 text)
    (else_of _ _ _ _ (and_no (b == 45) _ (is_not b 45 (λ e. none (inl (symbols.Minus, λ i. sym e i ∷ [])))))
    (else_of _ _ _ _ (and_no (b == 47) _ (is_not b 47 (λ e. none (inl (symbols.Slash, λ i. sym e i ∷ [])))))
    (λ i. longest (long_none b rest h i) (short_none b none i))))))))

-- ---- any piece

item_front : (k : TokenKind) (w rest : List ℕ) → IsItem k w rest → front (w ++ rest) ≡ Item k (length w)
item_front Word w rest h = word_front w rest h
item_front Quoted w rest (name, some, (e, ends)) = ap (λ l. front (l ++ rest)) e ∙ name_at name rest some ends ∙ ap (λ l. Item Quoted (length l)) (sym e)
item_front (Number n) w rest h = number_front (Number n) w rest h
item_front Text w rest (text, (e, ends)) = ap (λ l. front (l ++ rest)) e ∙ text_at text rest ends ∙ ap (λ l. Item Text (length l)) (sym e)
item_front (Symbol s) w rest (e, h) =
    ap (λ l. front (l ++ rest)) e ∙ symbol_front s rest (subst (λ l. IsLongest l rest) e h) ∙ ap (λ l. Item (Symbol s) (length l)) (sym e)
item_front (Odd f) w rest (inl (is, (e, ends))) =
    ap (λ l. front (l ++ rest)) e ∙ no_name_at rest ends ∙ (λ i. Item (sym is i) (length (sym e i)))
item_front (Odd f) w rest (inr (inl (b, is, e, h))) =
    ap (λ l. front (l ++ rest)) e ∙ bad_front b rest h ∙ (λ i. Item (sym is i) (length (sym e i)))
item_front (Odd f) w rest (inr (inr h)) = number_front (Odd f) w rest h

pub piece_front : (p : Piece) (rest : List ℕ) → IsPiece p rest → front (written p ++ rest) ≡ front_of p
piece_front (gap w) rest h = gap_front w rest h
piece_front (item k w) rest h = item_front k w rest h
piece_front (spoiled k w b) rest h = spoiled_front k w rest b h.0 h.1

name_open : (c : List ℕ) → front (34 ∷ doubled 34 c) ≡ Unclosed
unfolding front
name_open c = ap closed_name (closing_open 34 1 c)

text_open : (c : List ℕ) → front (39 ∷ doubled 39 c) ≡ Unclosed
unfolding front
text_open c = ap closed_text (closing_open 39 1 c)

block_open : (c : List ℕ) → HasNoEnd c → front (47 ∷ 42 ∷ c) ≡ Unclosed
unfolding front
block_open c h = ap closed_comment (comment_open false 2 c h)

pub open_front : (z : List ℕ) → IsOpen z → (front z ≡ Unclosed) × (0 < length z)
open_front z (inl (c, e)) = (ap front e ∙ name_open c, omega (arith, ap length e))
open_front z (inr (inl (c, e))) = (ap front e ∙ text_open c, omega (arith, ap length e))
open_front z (inr (inr (c, e, h))) = (ap front e ∙ block_open c h, omega (arith, ap length e))
