-- No reserved word is left out of the table, and no two are spelled alike.
use Rattle.std.proofs.Common.{◌≡◌, ℕ, ◌<◌, Bool, true, false, List, [], ◌∷◌, length, Some, refl, ap, sym, ◌∙◌, arith}
use Rattle.std.specs.Prelude.{if◌then◌else◌, ◌==◌, ◌||◌, filter, slice_index}
use Rattle.std.specs.Char.{to_ascii_lowercase}
use Rattle.std.specs.List.{find, list_any}
use Rattle.std.proofs.lemmas.Bool.Decides.{nat_tests}
use Rattle.std.specs.Str.{bytes_eq}
use Rattle.std.proofs.lemmas.Slice.Eq.{bytes_eq-Decides}
use Rattle.wt_lex.specs.declared.token.Token.{Token}
use Rattle.wt_lex.specs.declared.words.Word.{Word}
use Rattle.wt_lex.specs.declared.words.Word.TheVariants as word
use Rattle.wt_lex.specs.declared.token.TokenKind.{TokenKind}
use Rattle.wt_lex.specs.declared.token.TokenKind.TheVariants as kinds
use Rattle.wt_lex.specs.Names.{folded, is_folded, spelled, is_word, word_by, keyword}
use Rattle.wt_lex.specs.Words.{spelling, all_words, words_from, is_reserved}

-- each word is found by its spelling
pub found : (w : Word) → find (λ other. bytes_eq (spelling w) (spelling other)) all_words ≡ Some w
found word.All = refl
found word.And = refl
found word.As = refl
found word.Between = refl
found word.Case = refl
found word.Cast = refl
found word.Check = refl
found word.Constraint = refl
found word.Create = refl
found word.Cross = refl
found word.Default = refl
found word.Distinct = refl
found word.Except = refl
found word.Exists = refl
found word.False = refl
found word.Fetch = refl
found word.Foreign = refl
found word.From = refl
found word.Full = refl
found word.Group = refl
found word.Having = refl
found word.Ilike = refl
found word.In = refl
found word.Inner = refl
found word.Intersect = refl
found word.Is = refl
found word.Join = refl
found word.Left = refl
found word.Like = refl
found word.Limit = refl
found word.Natural = refl
found word.Not = refl
found word.Null = refl
found word.Offset = refl
found word.On = refl
found word.Or = refl
found word.Order = refl
found word.Outer = refl
found word.Primary = refl
found word.References = refl
found word.Right = refl
found word.Select = refl
found word.Similar = refl
found word.Table = refl
found word.True = refl
found word.Union = refl
found word.Unique = refl
found word.Using = refl
found word.Where = refl
found word.Window = refl
found word.With = refl

-- each word is reserved
pub reserved : (w : Word) → is_reserved (spelling w) ≡ true
reserved word.All = refl
reserved word.And = refl
reserved word.As = refl
reserved word.Between = refl
reserved word.Case = refl
reserved word.Cast = refl
reserved word.Check = refl
reserved word.Constraint = refl
reserved word.Create = refl
reserved word.Cross = refl
reserved word.Default = refl
reserved word.Distinct = refl
reserved word.Except = refl
reserved word.Exists = refl
reserved word.False = refl
reserved word.Fetch = refl
reserved word.Foreign = refl
reserved word.From = refl
reserved word.Full = refl
reserved word.Group = refl
reserved word.Having = refl
reserved word.Ilike = refl
reserved word.In = refl
reserved word.Inner = refl
reserved word.Intersect = refl
reserved word.Is = refl
reserved word.Join = refl
reserved word.Left = refl
reserved word.Like = refl
reserved word.Limit = refl
reserved word.Natural = refl
reserved word.Not = refl
reserved word.Null = refl
reserved word.Offset = refl
reserved word.On = refl
reserved word.Or = refl
reserved word.Order = refl
reserved word.Outer = refl
reserved word.Primary = refl
reserved word.References = refl
reserved word.Right = refl
reserved word.Select = refl
reserved word.Similar = refl
reserved word.Table = refl
reserved word.True = refl
reserved word.Union = refl
reserved word.Unique = refl
reserved word.Using = refl
reserved word.Where = refl
reserved word.Window = refl
reserved word.With = refl

-- each is spelled in lower case
pub lower : (w : Word) → folded (spelling w) ≡ spelling w
lower word.All = refl
lower word.And = refl
lower word.As = refl
lower word.Between = refl
lower word.Case = refl
lower word.Cast = refl
lower word.Check = refl
lower word.Constraint = refl
lower word.Create = refl
lower word.Cross = refl
lower word.Default = refl
lower word.Distinct = refl
lower word.Except = refl
lower word.Exists = refl
lower word.False = refl
lower word.Fetch = refl
lower word.Foreign = refl
lower word.From = refl
lower word.Full = refl
lower word.Group = refl
lower word.Having = refl
lower word.Ilike = refl
lower word.In = refl
lower word.Inner = refl
lower word.Intersect = refl
lower word.Is = refl
lower word.Join = refl
lower word.Left = refl
lower word.Like = refl
lower word.Limit = refl
lower word.Natural = refl
lower word.Not = refl
lower word.Null = refl
lower word.Offset = refl
lower word.On = refl
lower word.Or = refl
lower word.Order = refl
lower word.Outer = refl
lower word.Primary = refl
lower word.References = refl
lower word.Right = refl
lower word.Select = refl
lower word.Similar = refl
lower word.Table = refl
lower word.True = refl
lower word.Union = refl
lower word.Unique = refl
lower word.Using = refl
lower word.Where = refl
lower word.Window = refl
lower word.With = refl

-- a token that is a reserved word is that one
pub keyword_is : (bytes : List ℕ) (t : Token) (w : Word) → is_word bytes t (spelling w) ≡ true → keyword bytes t ≡ Some w
keyword_is bytes t w = by t.kind
  where
    by : (k : TokenKind) → word_by k (spelled bytes t) (spelling w) ≡ true → find (λ v. word_by k (spelled bytes t) (spelling v)) all_words ≡ Some w
    by kinds.Word h =
        let same : folded (spelled bytes t) ≡ spelling w = (bytes_eq-Decides (folded (spelled bytes t)) (folded (spelling w))).0 h ∙ lower w in
        (λ i. find (λ v. bytes_eq (same i) (lower v i)) all_words) ∙ found w
    by kinds.Quoted h = absurd cc
    by (kinds.Number n) h = absurd cc
    by kinds.Text h = absurd cc
    by (kinds.Symbol s) h = absurd cc
    by (kinds.Odd f) h = absurd cc

-- ---- the words of a letter are all that need to be looked at

find-filter : {X : Type 0} (p q : X → Bool) → ((x : X) → p x ≡ true → q x ≡ true) → (xs : List X) → find p (filter q xs) ≡ find p xs
find-filter p q h [] = refl
find-filter {X} p q h (x ∷ xs) = by (q x) refl (p x) refl (find-filter p q h xs)
  where
    by : (t : Bool) → q x ≡ t → (s : Bool) → p x ≡ s → find p (filter q xs) ≡ find p xs → find p (filter q (x ∷ xs)) ≡ find p (x ∷ xs)
    by true e s f ih = rw e (ap (λ r. if p x then Some x else r) ih)
    by false e true f ih = let g = h x f in absurd cc
    by false e false f ih = rw (e, f) ih

any-filter : {X : Type 0} (p q : X → Bool) → ((x : X) → p x ≡ true → q x ≡ true) → (xs : List X) → list_any p (filter q xs) ≡ list_any p xs
any-filter p q h [] = refl
any-filter {X} p q h (x ∷ xs) = by (q x) refl (p x) refl (any-filter p q h xs)
  where
    by : (t : Bool) → q x ≡ t → (s : Bool) → p x ≡ s → list_any p (filter q xs) ≡ list_any p xs → list_any p (filter q (x ∷ xs)) ≡ list_any p (x ∷ xs)
    by true e s f ih = rw e (ap (λ r. p x || r) ih)
    by false e true f ih = let g = h x f in absurd cc
    by false e false f ih = rw (e, f) ih

same_first : (b : ℕ) (w : Word) (name : List ℕ) → spelling w ≡ b ∷ name → (slice_index (spelling w) 0 == b) ≡ true
same_first b w name e = ap (λ l. slice_index l 0 == b) e ∙ grind (arith, nat_tests)

pub reserved_from : (word : List ℕ) → 0 < length word → list_any (λ w. bytes_eq (spelling w) word) (words_from (slice_index word 0)) ≡ is_reserved word
reserved_from [] some = absurd (omega arith)
reserved_from (b ∷ name) some =
    any-filter (λ w. bytes_eq (spelling w) (b ∷ name)) (λ w. slice_index (spelling w) 0 == b)
    (λ w h. same_first b w name ((bytes_eq-Decides (spelling w) (b ∷ name)).0 h)) all_words

pub found_from : (word : List ℕ) → 0 < length word
    → find (λ w. is_folded word (spelling w)) (words_from (to_ascii_lowercase (slice_index word 0))) ≡ find (λ w. is_folded word (spelling w)) all_words
found_from [] some = absurd (omega arith)
found_from (b ∷ name) some =
    find-filter (λ w. is_folded (b ∷ name) (spelling w)) (λ w. slice_index (spelling w) 0 == to_ascii_lowercase b)
    (λ w h. same_first (to_ascii_lowercase b) w (folded name) (sym ((bytes_eq-Decides (folded (b ∷ name)) (folded (spelling w))).0 h ∙ lower w))) all_words
