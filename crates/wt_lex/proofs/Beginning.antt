-- Each text that is not empty begins with a piece, or with a quote or comment that is not closed.
use Rattle.std.proofs.Common.{◌≡◌, ℕ, Bool, true, false, ◌⊎◌, inl, inr, List, [], ◌∷◌, ◌++◌, refl, ap, sym, subst, ◌∙◌, arith, append_assoc, Option, Some, None}
use Rattle.std.specs.Prelude.{◌==◌, nat_lt}
use Rattle.std.specs.Char.{is_ascii_digit}
use Rattle.std.proofs.lemmas.Bool.{cond_both}
use Rattle.std.proofs.lemmas.Bool.Decides.{nat_tests}
use Rattle.wt_lex.specs.declared.token.LexFault.TheVariants as fault
use Rattle.wt_lex.specs.declared.token.Sym.{Sym}
use Rattle.wt_lex.specs.declared.token.TokenKind.TheVariants.{Word, Quoted, Number, Text, Symbol, Odd}
use Rattle.wt_lex.specs.Fronts.{is_blank, begins_word, spoils, number_kind, value, past_most, long_symbol, short_symbol}
use Rattle.wt_lex.specs.Spelling.{Piece, gap, item, spoiled, written, EndsBefore, in_line, goes_on_word, AreDigits, IsNumber, IsItem, IsPiece, IsLongest, IsOpen, doubled, quoted}
use Rattle.wt_lex.proofs.Splits.{are_cons, run_of, quotes_of, Quotes, comment_of, Comment, quote_is}
use Rattle.wt_lex.proofs.Symbols.{long_written, short_written, longest_two, longest_one, longest_end, no_mark}

abbrev pub Begins : List ℕ → Type 0
Begins z = ((p : Piece) × (rest : List ℕ) × (z ≡ written p ++ rest) × IsPiece p rest) ⊎ IsOpen z

word_begins : (b : ℕ) (y : List ℕ) → begins_word b ≡ true → Begins (b ∷ y)
word_begins b y h = let (w, rest, e, all, ends) = run_of goes_on_word y in inl (item Word (b ∷ w), rest, ap (λ l. b ∷ l) e, (b, w, refl, h, all, ends))

pub number_item : (ds rest : List ℕ) → IsNumber (number_kind ds) ds rest → IsItem (number_kind ds) ds rest
number_item ds rest =
    cond_both (nat_lt (value ds) past_most) (Number (value ds)) (Odd fault.NumberRange) (λ k. IsNumber k ds rest → IsItem k ds rest) (λ _ h. h) (λ _ h. inr (inr h))

digits_begin : (ds rest : List ℕ) → AreDigits (number_kind ds) ds → EndsBefore is_ascii_digit rest → Begins (ds ++ rest)
digits_begin ds [] are ends = inl (item (number_kind ds) ds, [], refl, number_item ds [] (are, tt, tt))
digits_begin ds (c ∷ r) are ends = by (spoils c) refl
  where
    by : (t : Bool) → spoils c ≡ t → Begins (ds ++ c ∷ r)
    by true h = inl (spoiled (number_kind ds) ds c, r, sym (append_assoc ds (c ∷ []) r), (are, h))
    by false h = inl (item (number_kind ds) ds, c ∷ r, refl, number_item ds (c ∷ r) (are, ends, h))

number_begins : (b : ℕ) (y : List ℕ) → is_ascii_digit b ≡ true → Begins (b ∷ y)
number_begins b y h =
    let (w, rest, e, all, ends) = run_of is_ascii_digit y in
    subst Begins (ap (λ l. b ∷ l) (sym e)) (digits_begin (b ∷ w) rest (omega arith, are_cons is_ascii_digit b w h all, refl) ends)

closed : (q : ℕ) (bs rest y : List ℕ) → y ≡ doubled q bs ++ q ∷ rest → q ∷ y ≡ quoted q bs ++ rest
closed q bs rest y e = ap (λ l. q ∷ l) (e ∙ sym (append_assoc (doubled q bs) (q ∷ []) rest))

name_begins : (y : List ℕ) → Quotes 34 y → Begins (34 ∷ y)
name_begins y (inl (bs, e)) = inr (inl (bs, ap (λ l. 34 ∷ l) e))
name_begins y (inr ([], rest, e, ends)) = inl (item (Odd fault.BadCharacter) (quoted 34 []), rest, closed 34 [] rest y e, inl (refl, (refl, ends)))
name_begins y (inr (c ∷ bs, rest, e, ends)) = inl (item Quoted (quoted 34 (c ∷ bs)), rest, closed 34 (c ∷ bs) rest y e, (c ∷ bs, omega arith, (refl, ends)))

text_begins : (y : List ℕ) → Quotes 39 y → Begins (39 ∷ y)
text_begins y (inl (bs, e)) = inr (inr (inl (bs, ap (λ l. 39 ∷ l) e)))
text_begins y (inr (bs, rest, e, ends)) = inl (item Text (quoted 39 bs), rest, closed 39 bs rest y e, (bs, (refl, ends)))

line_begins : (y : List ℕ) → Begins (45 ∷ 45 ∷ y)
line_begins y = let (w, rest, e, all, ends) = run_of in_line y in inl (gap (45 ∷ 45 ∷ w), rest, ap (λ l. 45 ∷ 45 ∷ l) e, inr (inl (w, refl, all, ends)))

block_begins : (y : List ℕ) → Comment y → Begins (47 ∷ 42 ∷ y)
block_begins y (inl h) = inr (inr (inr (y, refl, h)))
block_begins y (inr (c, rest, e, h)) =
    inl (gap (47 ∷ 42 ∷ (c ++ 42 ∷ 47 ∷ [])), rest, ap (λ l. 47 ∷ 42 ∷ l) (e ∙ sym (append_assoc c (42 ∷ 47 ∷ []) rest)), inr (inr (c, refl, h)))

-- what a byte is that begins nothing else
pub record IsPlain (b : ℕ) : Type 0 where
  pub blank : is_blank b ≡ false
  pub word : begins_word b ≡ false
  pub digit : is_ascii_digit b ≡ false
  pub name : (b == 34) ≡ false
  pub text : (b == 39) ≡ false

pub is_no : (b c : ℕ) → (b == c) ≡ false → b ≡ c → ⊥
is_no b c h e = let n : (b == c) ≡ true = grind (arith, nat_tests) in cc

symbol_begins : (b : ℕ) (rest : List ℕ) → IsPlain b → IsLongest (b ∷ []) rest → (r : Option Sym) → short_symbol b ≡ r → Begins (b ∷ rest)
symbol_begins b rest plain longest (Some s) e =
    let w = short_written b s e in inl (item (Symbol s) (b ∷ []), rest, refl, (sym w, longest))
symbol_begins b rest plain longest None e =
    inl (
      item (Odd fault.BadCharacter) (b ∷ []),
      rest,
      refl,
      inr (inl (b, refl, refl, (plain.blank, plain.word, plain.digit, is_no b 34 plain.name, is_no b 39 plain.text, no_mark b e, longest))),
    )

long_begins : (b c : ℕ) (z : List ℕ) → IsPlain b → (b ≡ 45 → c ≡ 45 → ⊥) → (b ≡ 47 → c ≡ 42 → ⊥) → (r : Option Sym) → long_symbol b c ≡ r → Begins (b ∷ c ∷ z)
long_begins b c z plain line block (Some s) e =
    let w = long_written b c s e in
    inl (item (Symbol s) (b ∷ c ∷ []), z, refl, (sym w, longest_two b c z))
long_begins b c z plain line block None e = symbol_begins b (c ∷ z) plain (longest_one b c z e line block) (short_symbol b) refl

comments : (b c : ℕ) (z : List ℕ) → IsPlain b → (t : Bool) → (b == 45) ≡ t → (s : Bool) → (c == 45) ≡ s → (u : Bool) → (b == 47) ≡ u → (v : Bool) → (c == 42) ≡ v → Begins (b ∷ c ∷ z)
comments b c z plain true e true f u g v h = subst Begins (λ i. sym (quote_is b 45 e) i ∷ sym (quote_is c 45 f) i ∷ z) (line_begins z)
comments b c z plain t e s f true g true h = subst Begins (λ i. sym (quote_is b 47 g) i ∷ sym (quote_is c 42 h) i ∷ z) (block_begins z (comment_of z))
comments b c z plain true e false f true g false h = absurd (is_no 45 47 refl (sym (quote_is b 45 e) ∙ quote_is b 47 g))
comments b c z plain true e false f false g v h = long_begins b c z plain (λ x y. is_no c 45 f y) (λ x y. is_no b 47 g x) (long_symbol b c) refl
comments b c z plain false e s f true g false h = long_begins b c z plain (λ x y. is_no b 45 e x) (λ x y. is_no c 42 h y) (long_symbol b c) refl
comments b c z plain false e s f false g v h = long_begins b c z plain (λ x y. is_no b 45 e x) (λ x y. is_no b 47 g x) (long_symbol b c) refl

mark_begins : (b : ℕ) (y : List ℕ) → IsPlain b → Begins (b ∷ y)
mark_begins b [] plain = symbol_begins b [] plain (longest_end (b ∷ [])) (short_symbol b) refl
mark_begins b (c ∷ z) plain = comments b c z plain (b == 45) refl (c == 45) refl (b == 47) refl (c == 42) refl

begins_by : (b : ℕ) (y : List ℕ) → (t : Bool) → is_blank b ≡ t → (s : Bool) → begins_word b ≡ s → (u : Bool) → is_ascii_digit b ≡ u → (v : Bool) → (b == 34) ≡ v → (w : Bool) → (b == 39) ≡ w → Begins (b ∷ y)
begins_by b y true e s f u g v h w k = inl (gap (b ∷ []), y, refl, inl (b, refl, e))
begins_by b y false e true f u g v h w k = word_begins b y f
begins_by b y false e false f true g v h w k = number_begins b y g
begins_by b y false e false f false g true h w k = subst (λ q. Begins (q ∷ y)) (sym (quote_is b 34 h)) (name_begins y (quotes_of 34 y))
begins_by b y false e false f false g false h true k = subst (λ q. Begins (q ∷ y)) (sym (quote_is b 39 k)) (text_begins y (quotes_of 39 y))
begins_by b y false e false f false g false h false k = mark_begins b y (record { blank = e; word = f; digit = g; name = h; text = k })

pub begins : (b : ℕ) (y : List ℕ) → Begins (b ∷ y)
begins b y = begins_by b y (is_blank b) refl (begins_word b) refl (is_ascii_digit b) refl (b == 34) refl (b == 39) refl
