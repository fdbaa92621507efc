-- Of what parts a sentence is made. Each definition says of tokens that they are such a part, many of them with a value.
use Rattle.std.specs.Prelude.{◌≡◌, ℕ, Bool, true, List, [], ◌∷◌, ◌++◌, ◌⊎◌}
use Rattle.wt_reading.specs.declared.lexeme.Kind.{Kind}
use Rattle.wt_reading.specs.declared.lexeme.Lexeme.{Lexeme}
use Rattle.wt_reading.specs.Lexemes.{Tokens, is_open, is_close, is_comma}

-- one part, and another behind it
abbrev pub Seq : (Tokens → Type 0) → (Tokens → Type 0) → Tokens → Type 0
Seq P Q ts = (a : Tokens) × (b : Tokens) × (ts ≡ a ++ b) × P a × Q b

-- one of two
abbrev pub Either : (Tokens → Type 0) → (Tokens → Type 0) → Tokens → Type 0
Either P Q ts = P ts ⊎ Q ts

-- the part, or nothing
abbrev pub Maybe : (Tokens → Type 0) → Tokens → Type 0
Maybe P ts = (ts ≡ []) ⊎ P ts

-- one token
abbrev pub One : (Lexeme → Type 0) → Tokens → Type 0
One P ts = (t : Lexeme) × (ts ≡ t ∷ []) × P t

-- one token of a kind, and where it stands
abbrev pub Is : (Kind → Bool) → Tokens → Type 0
Is wanted = One (λ t. wanted t.kind ≡ true)

abbrev pub IsAt : (Kind → Bool) → ℕ → Tokens → Type 0
IsAt wanted at = One (λ t. (wanted t.kind ≡ true) × (at ≡ t.token.start))

-- { part }
abbrev pub Each : {A : Type 0} → (A → Tokens → Type 0) → List A → Tokens → Type 0
Each Part [] ts = ts ≡ []
Each Part (x ∷ xs) ts = Seq (Part x) (Each Part xs) ts

-- { sep part }
abbrev pub Behind : {A : Type 0} → (Kind → Bool) → (A → Tokens → Type 0) → List A → Tokens → Type 0
Behind sep Part [] ts = ts ≡ []
Behind sep Part (x ∷ xs) ts = Seq (Is sep) (Seq (Part x) (Behind sep Part xs)) ts

-- part { "," part }
abbrev pub Listed : {A : Type 0} → (A → Tokens → Type 0) → List A → Tokens → Type 0
Listed {A} Part xs ts = (y : A) × (ys : List A) × Seq (Part y) (Behind is_comma Part ys) ts × (xs ≡ y ∷ ys)

-- "(" part ")"
abbrev pub Parens : {A : Type 0} → (A → Tokens → Type 0) → A → Tokens → Type 0
Parens Part x = Seq (Is is_open) (Seq (Part x) (Is is_close))
