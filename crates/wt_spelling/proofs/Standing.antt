-- Each bit of a query's text may stand before what is written behind it.
use Rattle.std.proofs.Common.{◌≡◌, ℕ, suc, ◌^◌, ◌≤◌, Bool, true, false, inl, List, [], ◌∷◌, ◌++◌, length, codes, refl, sym, subst, arith, append_assoc, Option, Some, None, pos, negsuc}
use Rattle.std.specs.Prelude.{if◌then◌else◌, ◌==◌, ◌||◌, not, decimal}
use Rattle.std.specs.Char.{is_ascii_digit}
use Rattle.std.specs.List.{AllByRecursion}
use Rattle.std.specs.Str.{is_utf8}
use Rattle.std.proofs.lemmas.Bool.Decides.{nat_tests}
use Rattle.wt_value.specs.declared.value.Value.{Value}
use Rattle.wt_value.specs.declared.value.Value.TheVariants as values
use Rattle.wt_lex.specs.declared.token.Sym.{Sym}
use Rattle.wt_lex.specs.declared.token.Sym.TheVariants as sym
use Rattle.wt_lex.specs.declared.token.TokenKind.TheVariants as kinds
use Rattle.wt_lex.specs.declared.words.Word.{Word}
use Rattle.wt_lex.specs.declared.words.Word.TheVariants as word
use Rattle.wt_lex.specs.Fronts.{begins_word, spoils}
use Rattle.wt_lex.specs.Names.{folded}
use Rattle.wt_lex.specs.Spelling.{EndsBefore, Are, goes_on_word, quoted, symbol_written, IsLongest, IsPiece, item}
use Rattle.wt_lex.specs.Words.{spelling, is_bare}
use Rattle.wt_lex.proofs.Returning.{bare_item, decimal_item}
use Rattle.wt_lex.proofs.Symbols.{longest_two, longest_one, longest_end}
use Rattle.wt_ast.specs.declared.tree.ColumnName.{ColumnName}
use Rattle.wt_ast.specs.declared.tree.CmpWord.{CmpWord}
use Rattle.wt_ast.specs.declared.tree.CmpWord.TheVariants as signs
use Rattle.wt_ast.specs.declared.tree.Item.{Item}
use Rattle.wt_ast.specs.declared.tree.Item.TheVariants as items
use Rattle.wt_ast.specs.declared.tree.Scalar.{Scalar}
use Rattle.wt_ast.specs.declared.tree.Scalar.TheVariants as scalars
use Rattle.wt_ast.specs.Lawful.{IsName, IfWritten, OneOrMore, IsColumn, IsItem as IsFormedItem, IsLiteral, IsScalar}
use Rattle.wt_grammar.specs.Statements.{is_semicolon}
use Rattle.wt_spelling.specs.Numbers.{FitsValue, FitsScalar}
use Rattle.wt_spelling.specs.Spelling.{name_text, before_dot, column_text, value_text, scalar_text, others_text, listed, as_text, item_text, distinct_text, columns_text, sign_text, bracketed, is_tuple, tuple_text}
use Rattle.wt_spelling.proofs.Bits.{Bit, a_blank, a_word, a_sign, a_name, a_number, a_text, capitals, bit_text, piece_of, before_dot_bits, column_bits, value_bits, scalar_bits, others_bits, listed_bits, name_bits, spaced, spaced_two, as_bits, item_bits, distinct_bits, opened, closed, columns_bits, spaced_sign, bracketed_bits, tuple_bits, in_bits}

-- a byte that may stand behind any bit: a blank, `)`, `,` and `;`
abbrev pub is_break : ℕ → Bool
is_break b = b == 32 || b == 41 || b == 44 || b == 59

abbrev pub Breaks : List ℕ → Type 0
Breaks rest = EndsBefore (λ b. not (is_break b)) rest

-- neither a `;` nor a number that is out of range, and what is quoted is UTF-8
abbrev pub IsPlain : Bit → Type 0
IsPlain (a_sign s) = is_semicolon (kinds.Symbol s) ≡ false
IsPlain (a_name n) = IsName n
IsPlain (a_number n) = n ≤ 2 ^ 63
IsPlain (a_text t) = is_utf8 t ≡ true
IsPlain _ = Unit {0}

abbrev pub Stands : Bit → List ℕ → Type 0
Stands b rest = IsPlain b × IsPiece (piece_of b) rest

-- the text is these bits, each of which may stand before what stands behind it, up to what is left
abbrev pub Cuts : List Bit → List ℕ → List ℕ → Type 0
Cuts [] left text = text ≡ left
Cuts (b ∷ bs) left text = (rest : List ℕ) × (text ≡ bit_text b ++ rest) × Stands b rest × Cuts bs left rest

-- bits that may stand before a byte that breaks, and bits that may stand before anything
pub record Tight (bs : List Bit) (t : List ℕ) : Type 0 where
  pub tight : (rest : List ℕ) → Breaks rest → Cuts bs rest (t ++ rest)

pub record Loose (bs : List Bit) (t : List ℕ) : Type 0 where
  pub loose : (rest : List ℕ) → Cuts bs rest (t ++ rest)

-- ---- one behind another

cuts_append : (a b : List Bit) (left mid text : List ℕ) → Cuts a mid text → Cuts b left mid → Cuts (a ++ b) left text
cuts_append [] b left mid text e c = subst (Cuts b left) (sym e) c
cuts_append (x ∷ a) b left mid text (rest, e, s, c) d = (rest, e, s, cuts_append a b left mid rest c d)

module _ {a b : List Bit} {ta tb : List ℕ} where
  pub tight_then : Tight a ta → ((rest : List ℕ) → Breaks rest → Breaks (tb ++ rest)) → Tight b tb → Tight (a ++ b) (ta ++ tb)
  tight_then p begins q = record {
    tight = λ rest h. subst (Cuts (a ++ b) rest) (sym (append_assoc ta tb rest))
        (cuts_append a b rest (tb ++ rest) (ta ++ (tb ++ rest)) (p.tight (tb ++ rest) (begins rest h)) (q.tight rest h));
  }

  pub tight_last : Tight a ta → ((rest : List ℕ) → Breaks (tb ++ rest)) → Loose b tb → Loose (a ++ b) (ta ++ tb)
  tight_last p begins q = record {
    loose = λ rest. subst (Cuts (a ++ b) rest) (sym (append_assoc ta tb rest))
        (cuts_append a b rest (tb ++ rest) (ta ++ (tb ++ rest)) (p.tight (tb ++ rest) (begins rest)) (q.loose rest));
  }

  pub loose_then : Loose a ta → Tight b tb → Tight (a ++ b) (ta ++ tb)
  loose_then p q = record {
    tight = λ rest h. subst (Cuts (a ++ b) rest) (sym (append_assoc ta tb rest))
        (cuts_append a b rest (tb ++ rest) (ta ++ (tb ++ rest)) (p.loose (tb ++ rest)) (q.tight rest h));
  }

  pub loose_last : Loose a ta → Loose b tb → Loose (a ++ b) (ta ++ tb)
  loose_last p q = record {
    loose = λ rest. subst (Cuts (a ++ b) rest) (sym (append_assoc ta tb rest))
        (cuts_append a b rest (tb ++ rest) (ta ++ (tb ++ rest)) (p.loose (tb ++ rest)) (q.loose rest));
  }

pub as_tight : {a : List Bit} {ta : List ℕ} → Loose a ta → Tight a ta
as_tight p = record { tight = λ rest h. p.loose rest }

pub nothing : Loose [] []
nothing = record { loose = λ rest. refl }

one_tight : (b : Bit) → ((rest : List ℕ) → Breaks rest → Stands b rest) → Tight (b ∷ []) (bit_text b)
one_tight b f = record { tight = λ rest h. (rest, refl, f rest h, refl) }

one_loose : (b : Bit) → ((rest : List ℕ) → Stands b rest) → Loose (b ∷ []) (bit_text b)
one_loose b f = record { loose = λ rest. (rest, refl, f rest, refl) }

-- ---- what breaks

was_true : (t : Bool) → not t ≡ false → t ≡ true
was_true true h = refl
was_true false h = absurd cc

ends : (test : ℕ → Bool) → ((b : ℕ) → is_break b ≡ true → test b ≡ false) → (rest : List ℕ) → Breaks rest → EndsBefore test rest
ends test f [] h = tt
ends test f (b ∷ rest) h = f b (was_true (is_break b) h)

no_word_breaks : (b : ℕ) → is_break b ≡ true → goes_on_word b ≡ false
no_word_breaks b h = grind (arith, nat_tests)

no_quote_breaks : (q b : ℕ) → is_break q ≡ false → is_break b ≡ true → (b == q) ≡ false
no_quote_breaks q b h e = grind (arith, nat_tests)

no_digit_breaks : (b : ℕ) → is_break b ≡ true → is_ascii_digit b ≡ false
no_digit_breaks b h = grind (arith, nat_tests)

nothing_spoiled : (b : ℕ) → is_break b ≡ true → spoils b ≡ false
nothing_spoiled b h = grind (arith, nat_tests)

-- ---- one bit

pub blank_loose : Loose (a_blank ∷ []) (codes " ")
blank_loose = one_loose a_blank (λ rest. (tt, inl (32, refl, refl)))

-- a reserved word in capitals is a word, and this one
abbrev pub IsKey : Word → Type 0
IsKey w = (b : ℕ) × (c : List ℕ) × (capitals w ≡ b ∷ c) × (begins_word b ≡ true) × Are goes_on_word c × (folded (capitals w) ≡ spelling w)

pub is_key : (w : Word) → IsKey w
is_key word.All = (_, _, refl, refl, refl, refl)
is_key _ = (_, _, refl, refl, refl, refl)

pub word_tight : (w : Word) → Tight (a_word w ∷ []) (capitals w)
word_tight w =
    let (b, c, e, begins, are, _) = is_key w in
    one_tight (a_word w) (λ rest h. (tt, (b, c, e, begins, are, ends goes_on_word no_word_breaks rest h)))

word_loose : (w : Word) → Loose (a_word w ∷ a_blank ∷ []) (capitals w ++ codes " ")
word_loose w = tight_last (word_tight w) (λ rest. refl) blank_loose

pub spaced_loose : (w : Word) → Loose (spaced w) (codes " " ++ (capitals w ++ codes " "))
spaced_loose w = loose_last blank_loose (word_loose w)

pub spaced_two_loose : (w v : Word) → Loose (spaced_two w v) (codes " " ++ (capitals w ++ (codes " " ++ (capitals v ++ codes " "))))
spaced_two_loose w v = loose_last blank_loose (tight_last (word_tight w) (λ rest. refl) (spaced_loose v))

pub select_loose : Loose (a_word word.Select ∷ a_blank ∷ []) (codes "SELECT ")
select_loose = word_loose word.Select

pub not_loose : Loose (a_word word.Not ∷ a_blank ∷ []) (codes "NOT ")
not_loose = word_loose word.Not

-- a symbol that no other begins with may stand before anything
alone : (s : Sym) (b : ℕ) → is_semicolon (kinds.Symbol s) ≡ false → symbol_written s ≡ b ∷ [] → ((rest : List ℕ) → IsLongest (b ∷ []) rest) → Loose (a_sign s ∷ []) (symbol_written s)
alone s b plain e longest = one_loose (a_sign s) (λ rest. (plain, (refl, subst (λ w. IsLongest w rest) (sym e) (longest rest))))

open_longest : (rest : List ℕ) → IsLongest (40 ∷ []) rest
open_longest [] = longest_end (40 ∷ [])
open_longest (c ∷ z) = longest_one 40 c z refl (λ e f. omega arith) (λ e f. omega arith)

close_longest : (rest : List ℕ) → IsLongest (41 ∷ []) rest
close_longest [] = longest_end (41 ∷ [])
close_longest (c ∷ z) = longest_one 41 c z refl (λ e f. omega arith) (λ e f. omega arith)

comma_longest : (rest : List ℕ) → IsLongest (44 ∷ []) rest
comma_longest [] = longest_end (44 ∷ [])
comma_longest (c ∷ z) = longest_one 44 c z refl (λ e f. omega arith) (λ e f. omega arith)

dot_longest : (rest : List ℕ) → IsLongest (46 ∷ []) rest
dot_longest [] = longest_end (46 ∷ [])
dot_longest (c ∷ z) = longest_one 46 c z refl (λ e f. omega arith) (λ e f. omega arith)

star_longest : (rest : List ℕ) → IsLongest (42 ∷ []) rest
star_longest [] = longest_end (42 ∷ [])
star_longest (c ∷ z) = longest_one 42 c z refl (λ e f. omega arith) (λ e f. omega arith)

pub open_loose : Loose opened (codes "(")
open_loose = alone sym.Open 40 refl refl open_longest

pub close_loose : Loose closed (codes ")")
close_loose = alone sym.Close 41 refl refl close_longest

dot_loose : Loose (a_sign sym.Dot ∷ []) (codes ".")
dot_loose = alone sym.Dot 46 refl refl dot_longest

star_loose : Loose (a_sign sym.Star ∷ []) (codes "*")
star_loose = alone sym.Star 42 refl refl star_longest

pub comma_loose : Loose (a_sign sym.Comma ∷ a_blank ∷ []) (codes ", ")
comma_loose = loose_last (alone sym.Comma 44 refl refl comma_longest) blank_loose

pub in_loose : Loose in_bits (codes " IN (")
in_loose = loose_last (spaced_loose word.In) open_loose

-- a sign of a comparison between blanks
signed : (s : Sym) → is_semicolon (kinds.Symbol s) ≡ false → ((rest : List ℕ) → IsLongest (symbol_written s) (32 ∷ rest)) → Loose (a_blank ∷ a_sign s ∷ a_blank ∷ []) (codes " " ++ (symbol_written s ++ codes " "))
signed s plain longest =
    loose_last blank_loose (record {
      loose = λ rest. (32 ∷ rest, append_assoc (symbol_written s) (codes " ") rest, (plain, (refl, longest rest)), (rest, refl, (tt, inl (32, refl, refl)), refl));
    })

pub sign_loose : (w : CmpWord) → Loose (spaced_sign w) (sign_text w)
sign_loose signs.Eq = signed sym.Eq refl (λ rest. longest_one 61 32 rest refl (λ e f. omega arith) (λ e f. omega arith))
sign_loose signs.Ne = signed sym.NotEq refl (λ rest. longest_two 60 62 (32 ∷ rest))
sign_loose signs.Lt = signed sym.Lt refl (λ rest. longest_one 60 32 rest refl (λ e f. omega arith) (λ e f. omega arith))
sign_loose signs.Le = signed sym.Le refl (λ rest. longest_two 60 61 (32 ∷ rest))
sign_loose signs.Gt = signed sym.Gt refl (λ rest. longest_one 62 32 rest refl (λ e f. omega arith) (λ e f. omega arith))
sign_loose signs.Ge = signed sym.Ge refl (λ rest. longest_two 62 61 (32 ∷ rest))

-- ---- names

name_piece : (n rest : List ℕ) → IsName n → EndsBefore goes_on_word rest → EndsBefore (λ b. b == 34) rest → IsPiece (piece_of (a_name n)) rest
name_piece n rest h ends_word ends_quote = by (is_bare n) refl
  where
    by : (t : Bool) → is_bare n ≡ t → IsPiece (if t then item kinds.Word n else item kinds.Quoted (quoted 34 n)) rest
    by true e = bare_item n rest e ends_word
    by false e = (n, omega (arith, h.1), (refl, ends_quote))

pub name_tight : (n : List ℕ) → IsName n → Tight (a_name n ∷ []) (name_text n)
name_tight n h = one_tight (a_name n) (λ rest b. (h, name_piece n rest h (ends goes_on_word no_word_breaks rest b) (ends (λ b. b == 34) (λ b. no_quote_breaks 34 b refl) rest b)))

dotted_loose : (n : List ℕ) → IsName n → Loose (a_name n ∷ a_sign sym.Dot ∷ []) (name_text n ++ codes ".")
dotted_loose n h = record {
  loose = λ rest. (46 ∷ rest, append_assoc (name_text n) (codes ".") rest, (h, name_piece n (46 ∷ rest) h refl refl), dot_loose.loose rest);
}

starred_loose : (n : List ℕ) → IsName n → Loose ((a_name n ∷ []) ++ a_sign sym.Dot ∷ a_sign sym.Star ∷ []) (name_text n ++ codes ".*")
starred_loose n h = record {
  loose = λ rest. (46 ∷ 42 ∷ rest, append_assoc (name_text n) (codes ".*") rest, (h, name_piece n (46 ∷ 42 ∷ rest) h refl refl), (loose_last dot_loose star_loose).loose rest);
}

pub column_tight : (c : ColumnName) → IsColumn c → Tight (column_bits c) (column_text c)
column_tight c h = by c.table h.0
  where
    by : (t : Option (List ℕ)) → IfWritten IsName t → Tight (before_dot_bits t ++ a_name c.name ∷ []) (before_dot t ++ name_text c.name)
    by None _ = name_tight c.name h.1
    by (Some alias) is = loose_then (dotted_loose alias is) (name_tight c.name h.1)

-- ---- values

number_tight : (n : ℕ) → n ≤ 2 ^ 63 → Tight (a_number n ∷ []) (decimal n)
number_tight n h = one_tight (a_number n) (λ rest b. (h, decimal_item n rest (omega arith) (ends is_ascii_digit no_digit_breaks rest b) (ends spoils nothing_spoiled rest b)))

-- `-` may stand before a digit
minus_longest : (w rest : List ℕ) → 1 ≤ length w → Are is_ascii_digit w → IsLongest (45 ∷ []) (w ++ rest)
minus_longest [] rest some are = absurd (omega arith)
minus_longest (d ∷ w) rest some are = longest_one 45 d (w ++ rest) refl (λ e f. absurd (no_minus d f (digit d w are))) (λ e f. omega arith)
  where
    digit : (d : ℕ) (w : List ℕ) → Are is_ascii_digit (d ∷ w) → is_ascii_digit d ≡ true
    digit d w h = grind (arith, nat_tests)

    no_minus : (d : ℕ) → d ≡ 45 → is_ascii_digit d ≡ true → ⊥
    no_minus d e h = grind (arith, nat_tests)

negative_tight : (n : ℕ) → n ≤ 2 ^ 63 → Tight (a_sign sym.Minus ∷ a_number n ∷ []) (45 ∷ decimal n)
negative_tight n h = record {
  tight = λ rest b.
      let number = (number_tight n h).tight rest b in
      let digits = decimal_item n [] (omega arith) tt tt in
      (decimal n ++ rest, refl, (refl, (refl, minus_longest (decimal n) rest digits.0.0 digits.0.1)), number);
}

pub value_tight : (v : Value) → IsLiteral v → FitsValue v → Tight (value_bits v) (value_text v)
value_tight values.Null h f = absurd h
value_tight (values.Int (pos n)) h f = number_tight n (omega arith)
value_tight (values.Int (negsuc n)) h f = negative_tight (suc n) (omega arith)
value_tight (values.Text t) h f = one_tight (a_text t) (λ rest b. (h, (t, (refl, ends (λ b. b == 39) (λ b. no_quote_breaks 39 b refl) rest b))))

pub scalar_tight : (x : Scalar) → IsScalar x → FitsScalar x → Tight (scalar_bits x) (scalar_text x)
scalar_tight (scalars.Column c) h f = column_tight c h
scalar_tight (scalars.Literal v at) h f = value_tight v h f

-- ---- lists

module _ {A : Type 0} (bits : A → List Bit) (text : A → List ℕ) (Is : A → Type 0) (each : (x : A) → Is x → Tight (bits x) (text x)) where
  others_break : (xs : List A) (rest : List ℕ) → Breaks rest → Breaks (others_text text xs ++ rest)
  others_break [] rest h = h
  others_break (x ∷ xs) rest h = refl

  others_tight : (xs : List A) → AllByRecursion Is xs → Tight (others_bits bits xs) (others_text text xs)
  others_tight [] h = as_tight nothing
  others_tight (x ∷ xs) h = loose_then comma_loose (tight_then (each x h.0) (others_break xs) (others_tight xs h.1))

  pub listed_tight : (xs : List A) → AllByRecursion Is xs → Tight (listed_bits bits xs) (listed text xs)
  listed_tight [] h = as_tight nothing
  listed_tight (x ∷ xs) h = tight_then (each x h.0) (others_break xs) (others_tight xs h.1)

pub as_break : (o : Option (List ℕ)) (rest : List ℕ) → Breaks rest → Breaks (as_text o ++ rest)
as_break None rest h = h
as_break (Some n) rest h = refl

pub as_name_tight : (o : Option (List ℕ)) → IfWritten IsName o → Tight (as_bits o) (as_text o)
as_name_tight None h = as_tight nothing
as_name_tight (Some n) h = loose_then (spaced_loose word.As) (name_tight n h)

pub item_tight : (i : Item) → IsFormedItem i → Tight (item_bits i) (item_text i)
item_tight (items.Star at) h = as_tight star_loose
item_tight (items.AllOf alias at) h = as_tight (starred_loose alias h)
item_tight (items.Column c output) h = tight_then (column_tight c h.0) (as_break output) (as_name_tight output h.1)

pub distinct_loose : (d : Bool) → Loose (distinct_bits d) (distinct_text d)
distinct_loose true = word_loose word.Distinct
distinct_loose false = nothing

pub columns_break : (o : Option (List (List ℕ))) (rest : List ℕ) → Breaks rest → Breaks (columns_text o ++ rest)
columns_break None rest h = h
columns_break (Some ns) rest h = refl

pub columns_tight : (o : Option (List (List ℕ))) → IfWritten (OneOrMore IsName) o → Tight (columns_bits o) (columns_text o)
columns_tight None h = as_tight nothing
columns_tight (Some ns) h = as_tight (loose_last (loose_last blank_loose open_loose) (tight_last (listed_tight name_bits name_text IsName name_tight ns h.1) (λ rest. refl) close_loose))

pub bracketed_tight : (t : Bool) {bits : List Bit} {text : List ℕ} → Tight bits text → Tight (bracketed_bits t bits) (bracketed t text)
bracketed_tight true p = as_tight (loose_last open_loose (tight_last p (λ rest. refl) close_loose))
bracketed_tight false p = p

pub tuple_tight : (cs : List ColumnName) → OneOrMore IsColumn cs → Tight (tuple_bits cs) (tuple_text cs)
tuple_tight cs h = bracketed_tight (is_tuple cs) (listed_tight column_bits column_text IsColumn column_tight cs h.1)
