-- The lookahead for tuples as a machine that goes through the tokens once.
use Rattle.std.proofs.Common.{◌≡◌, ℕ, suc, ◌+◌, Bool, true, false, List, [], ◌∷◌, drop, refl, ap, sym, ◌∙◌, arith, Option, Some, None, Ok, Err}
use Rattle.std.specs.Prelude.{◌&&◌, if◌then◌else◌}
use Rattle.std.proofs.lemmas.List.{drop-drop}
use Rattle.wt_lex.specs.declared.token.Sym.TheVariants as sym
use Rattle.wt_reading.specs.declared.lexeme.Kind.{Kind}
use Rattle.wt_reading.specs.declared.lexeme.Kind.TheVariants.{Name, Mark}
use Rattle.wt_reading.specs.declared.lexeme.Lexeme.{Lexeme}
use Rattle.wt_reading.specs.Lexemes.{Tokens, kind, is_name, is_comma, is_close}
use Rattle.wt_reading.specs.Readings.{Reading, plus, followed, joined_to, more, list, taken}
use Rattle.wt_reading.proofs.Inversions.{skip}
use Rattle.wt_grammar.specs.Kinds.{is_dot}
use Rattle.wt_grammar.specs.Reading.{column_front, in_follows, closes_tuple, is_tuple}

-- before a column, behind its first name, behind a dot, behind its second name
pub data Stage : Type 0 where
  before_column : Stage
  behind_name : Stage
  behind_dot : Stage
  behind_column : Stage

-- the stage behind a token with which columns go on
abbrev pub next_stage : Stage → Kind → Option Stage
next_stage before_column Name = Some behind_name
next_stage behind_dot Name = Some behind_column
next_stage behind_name (Mark sym.Dot) = Some behind_dot
next_stage behind_name (Mark sym.Comma) = Some before_column
next_stage behind_column (Mark sym.Comma) = Some before_column
next_stage _ _ = None

-- a column may end here
abbrev pub ends_column : Stage → Bool
ends_column behind_name = true
ends_column behind_column = true
ends_column _ = false

abbrev pub passes : Stage → Tokens → Bool
passes at [] = false
passes at (t ∷ ts) = elim (next_stage at t.kind) [ Some s ↦ passes s ts | None ↦ ends_column at && is_close t.kind && in_follows ts ]

-- what stands behind a column: a comma and columns, or the end of a tuple
abbrev after_column : Tokens → Bool
after_column ts = closes_tuple ts (more is_comma column_front 0 ts)

closes_plus : {A : Type 0} (ts : Tokens) (n : ℕ) (r : Reading (Unit {0}) A) → closes_tuple ts (plus n r) ≡ closes_tuple (drop n ts) r
closes_plus ts n (Ok x) = ap (λ l. is_close (kind l) && in_follows (drop 1 l)) (sym (drop-drop x.1 n ts))
closes_plus ts n (Err e) = refl

closes_last : {A B : Type 0} (ts : Tokens) (r : Reading (Unit {0}) A) (f : A → B) → closes_tuple ts (followed ts r (λ x rest. Ok (f x, 0))) ≡ closes_tuple ts r
closes_last ts (Ok x) f = let e : x.1 + 0 ≡ x.1 = omega arith in ap (λ n. is_close (kind (drop n ts)) && in_follows (drop 1 (drop n ts))) e
closes_last ts (Err e) f = refl

closes_joined : {A : Type 0} (x : A) (n : ℕ) (t : Lexeme) (ts : Tokens) (r : Reading (Unit {0}) (List A)) → closes_tuple (t ∷ ts) (joined_to (Ok (x, n)) r) ≡ closes_tuple (drop n ts) r
closes_joined x n t ts (Ok xs) =
    let e : n + xs.1 + 1 ≡ suc (n + xs.1) = omega arith in
    ap (λ k. is_close (kind (drop k (t ∷ ts))) && in_follows (drop 1 (drop k (t ∷ ts)))) e
    ∙ ap (λ l. is_close (kind l) && in_follows (drop 1 l)) (sym (drop-drop xs.1 n ts))
closes_joined x n t ts (Err e) = refl

-- columns with commas, where the first one is
tuple_goes : (ts : Tokens) (n : ℕ) → column_front ts ≡ Ok (tt, n) → is_tuple ts ≡ after_column (drop n ts)
unfolding is_tuple list
tuple_goes ts n e =
    ap (λ r. closes_tuple ts (followed ts r (λ x rest. followed rest (more is_comma column_front 0 rest) (λ xs r. Ok (x ∷ xs, 0))))) e
    ∙ closes_plus ts n (followed (drop n ts) (more is_comma column_front 0 (drop n ts)) (λ xs r. Ok (tt ∷ xs, 0)))
    ∙ closes_last (drop n ts) (more is_comma column_front 0 (drop n ts)) (λ xs. tt ∷ xs)

tuple_fails : (ts : Tokens) → column_front ts ≡ Err tt → is_tuple ts ≡ false
unfolding is_tuple list
tuple_fails ts e = ap (λ r. closes_tuple ts (followed ts r (λ x rest. followed rest (more is_comma column_front 0 rest) (λ xs r. Ok (x ∷ xs, 0))))) e

-- behind a comma stand columns again
after_comma : (t : Lexeme) (ts : Tokens) → is_comma t.kind ≡ true → after_column (t ∷ ts) ≡ is_tuple ts
unfolding more
after_comma t ts h = rw h (by (column_front ts) refl)
  where
    by : (r : Reading (Unit {0}) (Unit {0})) → column_front ts ≡ r → closes_tuple (t ∷ ts) (joined_to (column_front ts) (more is_comma column_front (taken (column_front ts)) ts)) ≡ is_tuple ts
    by (Ok x) e =
        rw e (closes_joined x.0 x.1 t ts (more is_comma column_front x.1 ts) ∙ ap (closes_tuple (drop x.1 ts)) (skip is_comma column_front x.1 ts) ∙ sym (tuple_goes ts x.1 e))
    by (Err f) e = rw e (sym (tuple_fails ts e))

after_other : (t : Lexeme) (ts : Tokens) → is_comma t.kind ≡ false → after_column (t ∷ ts) ≡ (is_close t.kind && in_follows ts)
unfolding more
after_other t ts h = rw h refl

-- the column that a name begins
abbrev after_name : Tokens → Bool
after_name ts = if is_dot (kind ts) then (if is_name (kind (drop 1 ts)) then after_column (drop 2 ts) else false) else after_column ts

tuple_name : (t : Lexeme) (ts : Tokens) → is_name t.kind ≡ true → is_tuple (t ∷ ts) ≡ after_name ts
tuple_name t ts h = by (is_dot (kind ts)) refl (is_name (kind (drop 1 ts))) refl
  where
    by : (d : Bool) → is_dot (kind ts) ≡ d → (n : Bool) → is_name (kind (drop 1 ts)) ≡ n → is_tuple (t ∷ ts) ≡ after_name ts
    by true d true n = rw (d, n) (tuple_goes (t ∷ ts) 3 (rw (h, d, n) refl))
    by true d false n = rw (d, n) (tuple_fails (t ∷ ts) (rw (h, d, n) refl))
    by false d n e = rw d (tuple_goes (t ∷ ts) 1 (rw (h, d) refl))

tuple_first : (t : Lexeme) (ts : Tokens) → is_tuple (t ∷ ts) ≡ (if is_name t.kind then after_name ts else false)
tuple_first t ts = by (is_name t.kind) refl
  where
    by : (b : Bool) → is_name t.kind ≡ b → is_tuple (t ∷ ts) ≡ (if is_name t.kind then after_name ts else false)
    by true e = rw e (tuple_name t ts e)
    by false e = rw e (tuple_fails (t ∷ ts) (rw e refl))

after_first : (t : Lexeme) (ts : Tokens) → after_column (t ∷ ts) ≡ (if is_comma t.kind then is_tuple ts else (is_close t.kind && in_follows ts))
after_first t ts = by (is_comma t.kind) refl
  where
    by : (b : Bool) → is_comma t.kind ≡ b → after_column (t ∷ ts) ≡ (if is_comma t.kind then is_tuple ts else (is_close t.kind && in_follows ts))
    by true e = rw e (after_comma t ts e)
    by false e = rw e (after_other t ts e)

abbrev step : Stage → Kind → Tokens → Bool
step at k ts = elim (next_stage at k) [ Some s ↦ passes s ts | None ↦ ends_column at && is_close k && in_follows ts ]

step_name : (k : Kind) (ts : Tokens) (b : Bool) → passes behind_name ts ≡ b → step before_column k ts ≡ (if is_name k then b else false)
step_name Name ts b h = h
step_name _ ts b h = refl

step_behind : (k : Kind) (ts : Tokens) (b c : Bool) → passes behind_dot ts ≡ b → passes before_column ts ≡ c
    → step behind_name k ts ≡ (if is_dot k then b else (if is_comma k then c else (is_close k && in_follows ts)))
step_behind (Mark sym.Dot) ts b c h g = h
step_behind (Mark sym.Comma) ts b c h g = g
step_behind _ ts b c h g = refl

step_dot : (k : Kind) (ts : Tokens) (b : Bool) → passes behind_column ts ≡ b → step behind_dot k ts ≡ (if is_name k then b else false)
step_dot Name ts b h = h
step_dot _ ts b h = refl

step_column : (k : Kind) (ts : Tokens) (c : Bool) → passes before_column ts ≡ c → step behind_column k ts ≡ (if is_comma k then c else (is_close k && in_follows ts))
step_column (Mark sym.Comma) ts c g = g
step_column _ ts c g = refl

after_none : false ≡ after_column []
unfolding more
after_none = refl

mutual
  -- the machine finds what the lookahead asks
  pub passes_is : (ts : Tokens) → passes before_column ts ≡ is_tuple ts
  passes_is [] = sym (tuple_fails [] refl)
  passes_is (t ∷ ts) = step_name t.kind ts (after_name ts) (passes_name ts) ∙ sym (tuple_first t ts)

  passes_name : (ts : Tokens) → passes behind_name ts ≡ after_name ts
  passes_name [] = after_none
  passes_name (t ∷ ts) =
      step_behind t.kind ts (if is_name (kind ts) then after_column (drop 1 ts) else false) (is_tuple ts) (passes_dot ts) (passes_is ts)
      ∙ ap (λ b. if is_dot t.kind then (if is_name (kind ts) then after_column (drop 1 ts) else false) else b) (sym (after_first t ts))

  passes_dot : (ts : Tokens) → passes behind_dot ts ≡ (if is_name (kind ts) then after_column (drop 1 ts) else false)
  passes_dot [] = refl
  passes_dot (t ∷ ts) = step_dot t.kind ts (after_column ts) (passes_column ts)

  passes_column : (ts : Tokens) → passes behind_column ts ≡ after_column ts
  passes_column [] = after_none
  passes_column (t ∷ ts) = step_column t.kind ts (is_tuple ts) (passes_is ts) ∙ sym (after_first t ts)
