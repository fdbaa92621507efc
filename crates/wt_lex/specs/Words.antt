-- The reserved words, and the names that are written without quotes.
use Rattle.std.specs.Prelude.{ℕ, Bool, false, not, ◌&&◌, ◌||◌, ◌==◌, nat_le, List, [], ◌∷◌, codes, filter, slice_index}
use Rattle.std.specs.List.{list_any, list_all}
use Rattle.std.specs.Str.{bytes_eq}
use Rattle.wt_lex.specs.declared.words.Word.{Word}
use Rattle.wt_lex.specs.declared.words.Word.TheVariants as word

-- how a reserved word is spelled, in lower case
abbrev pub spelling : Word → List ℕ
spelling word.All = codes "all"
spelling word.And = codes "and"
spelling word.As = codes "as"
spelling word.Between = codes "between"
spelling word.Case = codes "case"
spelling word.Cast = codes "cast"
spelling word.Check = codes "check"
spelling word.Constraint = codes "constraint"
spelling word.Create = codes "create"
spelling word.Cross = codes "cross"
spelling word.Default = codes "default"
spelling word.Distinct = codes "distinct"
spelling word.Except = codes "except"
spelling word.Exists = codes "exists"
spelling word.False = codes "false"
spelling word.Fetch = codes "fetch"
spelling word.Foreign = codes "foreign"
spelling word.From = codes "from"
spelling word.Full = codes "full"
spelling word.Group = codes "group"
spelling word.Having = codes "having"
spelling word.Ilike = codes "ilike"
spelling word.In = codes "in"
spelling word.Inner = codes "inner"
spelling word.Intersect = codes "intersect"
spelling word.Is = codes "is"
spelling word.Join = codes "join"
spelling word.Left = codes "left"
spelling word.Like = codes "like"
spelling word.Limit = codes "limit"
spelling word.Natural = codes "natural"
spelling word.Not = codes "not"
spelling word.Null = codes "null"
spelling word.Offset = codes "offset"
spelling word.On = codes "on"
spelling word.Or = codes "or"
spelling word.Order = codes "order"
spelling word.Outer = codes "outer"
spelling word.Primary = codes "primary"
spelling word.References = codes "references"
spelling word.Right = codes "right"
spelling word.Select = codes "select"
spelling word.Similar = codes "similar"
spelling word.Table = codes "table"
spelling word.True = codes "true"
spelling word.Union = codes "union"
spelling word.Unique = codes "unique"
spelling word.Using = codes "using"
spelling word.Where = codes "where"
spelling word.Window = codes "window"
spelling word.With = codes "with"

-- all of them, in the order of the alphabet
abbrev pub all_words : List Word
all_words =
    word.All ∷ word.And ∷ word.As ∷ word.Between ∷ word.Case ∷ word.Cast ∷ word.Check ∷ word.Constraint ∷ word.Create ∷
    word.Cross ∷ word.Default ∷ word.Distinct ∷ word.Except ∷ word.Exists ∷ word.False ∷ word.Fetch ∷ word.Foreign ∷
    word.From ∷ word.Full ∷ word.Group ∷ word.Having ∷ word.Ilike ∷ word.In ∷ word.Inner ∷ word.Intersect ∷ word.Is ∷
    word.Join ∷ word.Left ∷ word.Like ∷ word.Limit ∷ word.Natural ∷ word.Not ∷ word.Null ∷ word.Offset ∷ word.On ∷ word.Or ∷
    word.Order ∷ word.Outer ∷ word.Primary ∷ word.References ∷ word.Right ∷ word.Select ∷ word.Similar ∷ word.Table ∷
    word.True ∷ word.Union ∷ word.Unique ∷ word.Using ∷ word.Where ∷ word.Window ∷ word.With ∷ []

-- the reserved words that begin with a letter, given in lower case
abbrev pub words_from : ℕ → List Word
words_from b = filter (λ w. slice_index (spelling w) 0 == b) all_words

-- a word, given in lower case, is reserved: it is a name only in quotes
abbrev pub is_reserved : List ℕ → Bool
is_reserved name = list_any (λ w. bytes_eq (spelling w) name) all_words

-- a lower-case letter or `_`
abbrev pub begins_bare : ℕ → Bool
begins_bare b = (nat_le 97 b && nat_le b 122) || b == 95

-- the same, or a digit
abbrev pub goes_on_bare : ℕ → Bool
goes_on_bare b = begins_bare b || (nat_le 48 b && nat_le b 57)

-- a lower-case word
abbrev pub is_lower_word : List ℕ → Bool
is_lower_word [] = false
is_lower_word (b ∷ bytes) = begins_bare b && list_all goes_on_bare bytes

-- a name that may be written without quotes: a lower-case word that is not reserved
abbrev pub is_bare : List ℕ → Bool
is_bare name = is_lower_word name && not (is_reserved name)
