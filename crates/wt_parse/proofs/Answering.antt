-- The steps by which the answer to a statement is found.
use Rattle.std.proofs.Common.{◌≡◌, ℕ, suc, ◌-◌, ◌<◌, true, false, List, [], ◌∷◌, take, refl, ap, ◌∙◌, arith, Some, Result, Err}
use Rattle.std.specs.Prelude.{map, slice_get}
use Rattle.std.specs.Global.{Box}
use Rattle.std.specs.Result.{IsErrAnd}
use Rattle.std.proofs.lemmas.Result.{err_from_is_err_and}
use Rattle.wt_lex.specs.declared.token.Token.{Token}
use Rattle.wt_ast.specs.declared.tree.Query.{Query}
use Rattle.wt_ast.specs.Tree.{QueryTree}
use Rattle.wt_grammar.specs.declared.fault.QueryFault.TheVariants.{TooLong}
use Rattle.wt_reading.specs.Lexemes.{lexeme}
use Rattle.wt_grammar.specs.Reading.{Read, refused, statement}
use Rattle.wt_grammar.specs.Statements.{Statement, Answer, begin, is_too_long, first_odd, limited, lexical_or, answer}
use Rattle.wt_front.specs.declared.error.QueryError.{QueryError}
use Rattle.wt_front.specs.declared.error.QueryError.TheVariants as errors
use Rattle.wt_parse.specs.declared.statements.Piece.{Piece}
use Rattle.wt_front.specs.Giving.{Fails}
use Rattle.wt_parse.specs.Held.{shown, NoOdd}
use Rattle.wt_parse.specs.Outcomes.{Answers}
use Rattle.wt_parse.proofs.Pieces.{drop_here}

pub begins : (tokens : List Token) (p : Piece) (t : Token) → p.from < p.to → slice_get tokens p.from ≡ Some t → begin (shown tokens p) (shown tokens p).tokens ≡ t.start
begins tokens p t some g =
    let e : p.to - p.from ≡ suc (p.to - p.from - 1) = omega arith in
    ap (λ l. begin (shown tokens p) l) ((λ i. take (e i) (drop_here tokens p.from t g i)))

pub too_long : (bytes : List ℕ) (s : Statement) → is_too_long s ≡ true → answer bytes s ≡ Err (refused TooLong, begin s s.tokens)
unfolding answer
too_long bytes s h = rw h

abbrev pub read : List ℕ → Statement → Read QueryTree
read bytes s = statement s.end bytes (map (lexeme bytes) s.tokens)

pub short_enough : (bytes : List ℕ) (s : Statement) → is_too_long s ≡ false → answer bytes s ≡ lexical_or (first_odd s.tokens) (limited (read bytes s))
unfolding answer
short_enough bytes s h = rw h

pub tokens_back : (bytes : List ℕ) (ts : List Token) → map (λ t. t.token) (map (lexeme bytes) ts) ≡ ts
unfolding lexeme
tokens_back bytes [] = refl
tokens_back bytes (t ∷ ts) = ap (λ l. t ∷ l) (tokens_back bytes ts)

-- a token that is refused wherever it stands
pub odd_exit : (e : QueryError) (got : Result (Box Query) QueryError) (tokens : List Token) (ans rest : Answer) → IsErrAnd got (λ y. y ≡ e) → NoOdd (Err e) tokens
    → ans ≡ lexical_or (first_odd tokens) rest → Answers got ans
odd_exit e got tokens ans rest was h is =
    let y = err_from_is_err_and got was in
    rw (y.1 ∙ ap Err y.2) (by e h)
  where
    by : (e : QueryError) → NoOdd (Err e) tokens → Answers (Err e) ans
    by errors.Memory h = absurd h
    by (errors.Refused f at) h = absurd h
    by (errors.Lex f at) h = is ∙ ap (λ o. lexical_or o rest) h

-- a refusal that reading meets
pub read_exit : (e : QueryError) (got : Result (Box Query) QueryError) (ans : Answer) (r : Read QueryTree) → IsErrAnd got (λ y. y ≡ e) → Fails e r → ans ≡ limited r → Answers got ans
read_exit e got ans r was h is =
    let y = err_from_is_err_and got was in
    rw (y.1 ∙ ap Err y.2) (by e h)
  where
    by : (e : QueryError) → Fails e r → Answers (Err e) ans
    by errors.Memory h = tt
    by (errors.Refused f at) h = is ∙ ap limited h
    by (errors.Lex f at) h = is ∙ ap limited h
