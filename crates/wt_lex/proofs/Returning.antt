-- Names, texts and numbers that are written come back.
use Rattle.std.proofs.Common.{◌≡◌, ℕ, ◌+◌, ◌-◌, ◌*◌, ◌%◌, ◌^◌, ◌<◌, ◌≤◌, Bool, true, false, List, [], ◌∷◌, ◌++◌, length, take, drop, refl, ap, sym, ◌∙◌, arith, append_assoc, length-append, Some, None}
use Rattle.std.specs.Prelude.{if◌then◌else◌, ◌==◌, ◌&&◌, ◌||◌, not, nat_lt, decimal}
use Rattle.std.specs.Char.{is_ascii_digit, to_ascii_lowercase}
use Rattle.std.specs.List.{list_all, list_any, find}
use Rattle.std.specs.Str.{bytes_eq}
use Rattle.std.proofs.lemmas.Bool.Decides.{nat_tests}
use Rattle.std.proofs.lemmas.Fmt.{decimal_by_steps}
use Rattle.std.proofs.lemmas.Slice.Eq.{bytes_eq-Decides}
use Rattle.std.proofs.Math.Seq.{drop-append_seam, take-append_seam}
use Rattle.wt_lex.specs.declared.token.LexFault.TheVariants as fault
use Rattle.wt_lex.specs.declared.token.TokenKind.{TokenKind}
use Rattle.wt_lex.specs.declared.token.TokenKind.TheVariants.{Word, Quoted, Number, Text, Odd}
use Rattle.wt_lex.specs.Fronts.{begins_word, spoils, value, value_more, number_kind, past_most}
use Rattle.wt_lex.specs.Names.{undoubled, spelled, inside, folded, name_bytes, text_bytes, keyword}
use Rattle.wt_lex.specs.Spelling.{EndsBefore, Are, goes_on_word, doubled, quoted, IsItem, IsWord, token}
use Rattle.wt_lex.specs.Words.{spelling, all_words, is_reserved, begins_bare, goes_on_bare, is_lower_word, is_bare}
use Rattle.wt_lex.proofs.Reserving.{lower}
use Rattle.wt_lex.proofs.Splits.{are_cons, are_parts, doubled_quote, doubled_other}

-- ---- quotes that stand twice come back

pub undoubled_doubled : (q : ℕ) (bs : List ℕ) → undoubled q false (doubled q bs) ≡ bs
undoubled_doubled q [] = refl
undoubled_doubled q (b ∷ bs) = by (undoubled_doubled q bs) (b == q) refl
  where
    by : undoubled q false (doubled q bs) ≡ bs → (t : Bool) → (b == q) ≡ t → undoubled q false (doubled q (b ∷ bs)) ≡ b ∷ bs
    by ih true e =
        ap (undoubled q false) (doubled_quote q b bs e)
        ∙ ap (λ t. b ∷ undoubled q t (b ∷ doubled q bs)) e
        ∙ ap (λ t. b ∷ (if t then undoubled q false (doubled q bs) else b ∷ undoubled q false (doubled q bs))) e
        ∙ ap (λ l. b ∷ l) ih
    by ih false e =
        ap (undoubled q false) (doubled_other q b bs e)
        ∙ ap (λ t. b ∷ undoubled q t (doubled q bs)) e
        ∙ ap (λ l. b ∷ l) ih

-- ---- where a piece stands

pub spelled_at : (before w rest : List ℕ) (k : TokenKind) → spelled (before ++ (w ++ rest)) (token k (length before) (length w)) ≡ w
spelled_at before w rest k =
    let size : length before + length w - length before ≡ length w = omega arith in
    (λ i. take (size i) (drop-append_seam before (w ++ rest) i)) ∙ take-append_seam w rest

inside_at : (before content rest : List ℕ) (k : TokenKind) (q : ℕ) → inside (before ++ ((q ∷ (content ++ q ∷ [])) ++ rest)) (token k (length before) (length (q ∷ (content ++ q ∷ [])))) ≡ content
inside_at before content rest k q =
    let size : length before + length (q ∷ (content ++ q ∷ [])) - 1 - (length before + 1) ≡ length content = omega (arith, length-append content (q ∷ [])) in
    let front : length (before ++ q ∷ []) ≡ length before + 1 = length-append before (q ∷ []) in
    let whole : before ++ ((q ∷ (content ++ q ∷ [])) ++ rest) ≡ (before ++ q ∷ []) ++ (content ++ (q ∷ rest)) =
    ap (λ l. before ++ q ∷ l) (append_assoc content (q ∷ []) rest) ∙ sym (append_assoc before (q ∷ []) (content ++ (q ∷ rest))) in
    (λ i. take (size i) (drop (sym front i) (whole i)))
    ∙ ap (take (length content)) (drop-append_seam (before ++ q ∷ []) (content ++ (q ∷ rest)))
    ∙ take-append_seam content (q ∷ rest)

-- a name in quotes, and a text
pub quoted_name : (before name rest : List ℕ) → name_bytes (before ++ (quoted 34 name ++ rest)) (token Quoted (length before) (length (quoted 34 name))) ≡ name
quoted_name before name rest = ap (undoubled 34 false) (inside_at before (doubled 34 name) rest Quoted 34) ∙ undoubled_doubled 34 name

pub quoted_text : (before text rest : List ℕ) → text_bytes (before ++ (quoted 39 text ++ rest)) (token Text (length before) (length (quoted 39 text))) ≡ text
quoted_text before text rest = ap (undoubled 39 false) (inside_at before (doubled 39 text) rest Text 39) ∙ undoubled_doubled 39 text

-- ---- bare names

both : (s t : Bool) → (s && t) ≡ true → (s ≡ true) × (t ≡ true)
both true t e = (refl, e)
both false t e = absurd cc

bare_begins : (b : ℕ) → begins_bare b ≡ true → begins_word b ≡ true
bare_begins b h = grind (arith, nat_tests)

bare_goes_on : (b : ℕ) → goes_on_bare b ≡ true → goes_on_word b ≡ true
bare_goes_on b h = grind (arith, nat_tests)

bare_is_lower : (b : ℕ) → goes_on_bare b ≡ true → to_ascii_lowercase b ≡ b
bare_is_lower b h = grind (arith, nat_tests)

begins_goes_on : (b : ℕ) → begins_bare b ≡ true → goes_on_bare b ≡ true
begins_goes_on b h = grind (arith, nat_tests)

all_go_on : (c : List ℕ) → list_all goes_on_bare c ≡ true → Are goes_on_word c
all_go_on [] h = refl
all_go_on (b ∷ c) h = let (e, f) = both (goes_on_bare b) (list_all goes_on_bare c) h in are_cons goes_on_word b c (bare_goes_on b e) (all_go_on c f)

all_lower : (c : List ℕ) → list_all goes_on_bare c ≡ true → folded c ≡ c
all_lower [] h = refl
all_lower (b ∷ c) h = let (e, f) = both (goes_on_bare b) (list_all goes_on_bare c) h in λ i. bare_is_lower b e i ∷ all_lower c f i

bare_word : (name rest : List ℕ) → is_lower_word name ≡ true → EndsBefore goes_on_word rest → IsWord name rest × (folded name ≡ name)
bare_word [] rest h ends = absurd cc
bare_word (b ∷ c) rest h ends =
    let (e, f) = both (begins_bare b) (list_all goes_on_bare c) h in
    ((b, c, refl, bare_begins b e, all_go_on c f, ends), all_lower (b ∷ c) (ap (λ t. t && list_all goes_on_bare c) (begins_goes_on b e) ∙ f))

-- a bare name is a word where it is written, whatever stands behind that does not go on with it
pub bare_item : (name rest : List ℕ) → is_bare name ≡ true → EndsBefore goes_on_word rest → IsItem Word name rest
bare_item name rest h ends = (bare_word name rest (both (is_lower_word name) _ h).0 ends).0

pub bare_name : (before name rest : List ℕ) → is_bare name ≡ true → name_bytes (before ++ (name ++ rest)) (token Word (length before) (length name)) ≡ name
bare_name before name rest h = ap folded (spelled_at before name rest Word) ∙ (bare_word name [] (both (is_lower_word name) _ h).0 tt).1

same_both_ways : (a b : List ℕ) → bytes_eq a b ≡ bytes_eq b a
same_both_ways a b = by (bytes_eq a b) refl (bytes_eq b a) refl
  where
    by : (s : Bool) → bytes_eq a b ≡ s → (t : Bool) → bytes_eq b a ≡ t → s ≡ t
    by true e true f = refl
    by false e false f = refl
    by true e false f = let g = (bytes_eq-Decides b a).1 (sym ((bytes_eq-Decides a b).0 e)) in cc
    by false e true f = let g = (bytes_eq-Decides a b).1 (sym ((bytes_eq-Decides b a).0 f)) in cc

none_found : {X : Type 0} (test : X → Bool) (xs : List X) → list_any test xs ≡ false → find test xs ≡ None
none_found test [] h = refl
none_found {X} test (x ∷ xs) h = by (none_found test xs) (test x) refl
  where
    by : (list_any test xs ≡ false → find test xs ≡ None) → (t : Bool) → test x ≡ t → find test (x ∷ xs) ≡ None
    by next true e = let g : true ≡ false = ap (λ t. t || list_any test xs) (sym e) ∙ h in absurd cc
    by next false e = ap (λ t. if t then Some x else find test xs) e ∙ next (ap (λ t. t || list_any test xs) (sym e) ∙ h)

not_true : (t : Bool) → not t ≡ true → t ≡ false
not_true true e = absurd cc
not_true false e = refl

-- and no reserved word
pub bare_free : (before name rest : List ℕ) → is_bare name ≡ true → keyword (before ++ (name ++ rest)) (token Word (length before) (length name)) ≡ None
bare_free before name rest h =
    let (low, free) = both (is_lower_word name) _ h in
    let fold : folded (spelled (before ++ (name ++ rest)) (token Word (length before) (length name))) ≡ name = bare_name before name rest h in
    (λ i. find (λ w. bytes_eq (fold i) (lower w i)) all_words)
    ∙ (λ i. find (λ w. same_both_ways name (spelling w) i) all_words)
    ∙ none_found (λ w. bytes_eq (spelling w) name) all_words (not_true (is_reserved name) free)

-- ---- numbers

value_more-append : (n : ℕ) (ds : List ℕ) (d : ℕ) → value_more n (ds ++ d ∷ []) ≡ 10 * value_more n ds + (d - 48)
value_more-append n [] d = refl
value_more-append n (c ∷ ds) d = value_more-append (10 * n + (c - 48)) ds d

all_append : (ds : List ℕ) (d : ℕ) → list_all is_ascii_digit ds ≡ true → is_ascii_digit d ≡ true → list_all is_ascii_digit (ds ++ d ∷ []) ≡ true
all_append [] d h e = are_cons is_ascii_digit d [] e refl
all_append (c ∷ ds) d h e = let (f, g) = are_parts is_ascii_digit c ds h in are_cons is_ascii_digit c (ds ++ d ∷ []) f (all_append ds d g e)

digit_is : (m : ℕ) → m < 10 → is_ascii_digit (48 + m) ≡ true
digit_is m h = grind (arith, nat_tests)

abbrev Spells : ℕ → List ℕ → Type 0
Spells m ds = (1 ≤ length ds) × (list_all is_ascii_digit ds ≡ true) × (value ds ≡ m)

decimal_spells : (n : ℕ) → n < 2 ^ 64 → Spells n (decimal n)
decimal_spells =
    decimal_by_steps Spells
    (λ m l. (omega arith, are_cons is_ascii_digit (48 + m) [] (digit_is m l) refl, omega arith))
    (λ m ds l h. (
      omega (arith, length-append ds ((48 + m % 10) ∷ [])),
      all_append ds (48 + m % 10) h.1 (digit_is (m % 10) (omega arith)),
      value_more-append 0 ds (48 + m % 10) ∙ omega (arith, h.2),
    ))

kind_of : (ds : List ℕ) (n : ℕ) → value ds ≡ n → n < past_most → Number n ≡ number_kind ds
kind_of ds n e h =
    let small : nat_lt n past_most ≡ true = grind (arith, nat_tests) in
    sym ((λ i. if nat_lt (e i) past_most then Number (e i) else Odd fault.NumberRange) ∙ ap (λ t. if t then Number n else Odd fault.NumberRange) small)

-- a number is its decimal, where no digit, letter, `_` or `.` stands behind
pub decimal_item : (n : ℕ) (rest : List ℕ) → n < past_most → EndsBefore is_ascii_digit rest → EndsBefore spoils rest → IsItem (Number n) (decimal n) rest
decimal_item n rest h ends clean =
    let (some, all, is) = decimal_spells n (omega arith) in ((some, all, kind_of (decimal n) n is h), ends, clean)
