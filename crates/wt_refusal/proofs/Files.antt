-- The statement of a file that is refused by its grammar.
use Rattle.std.proofs.Common.{◌≡◌, ℕ, zero, suc, Bool, true, false, List, [], ◌∷◌, map, refl, ap, sym, ◌∙◌, subst, Ok, Err, Option, Some, None}
use Rattle.std.specs.Prelude.{if◌then◌else◌, length, slice_get, Result}
use Rattle.wt_bag.specs.Bags.{Each}
use Rattle.wt_lex.specs.declared.token.Token.{Token}
use Rattle.wt_lex.specs.declared.token.LexFault.{LexFault}
use Rattle.wt_lex.specs.Sound.{InOrder}
use Rattle.wt_lex.specs.Tokens.{lexed}
use Rattle.wt_lex.proofs.Lexing.{tokens_in_order}
use Rattle.wt_ast.specs.Tree.{QueryTree}
use Rattle.wt_ast.specs.Marks.{marks}
use Rattle.wt_grammar.specs.declared.fault.QueryFault.{QueryFault}
use Rattle.wt_grammar.specs.declared.fault.QueryFault.TheVariants as fault
use Rattle.wt_reading.specs.Lexemes.{lexeme}
use Rattle.wt_grammar.specs.Reading.{Read, Refusal, refused, odd, statement}
use Rattle.wt_grammar.specs.Statements.{Statement, File, Answer, file_by, file_of, statements, is_too_long, lexical_or, first_odd, limited, barred, hidden_or, too_many, unless, answer, begin}
use Rattle.wt_refusal.specs.Refused.{StandsAt, is_of_grammar}
use Rattle.wt_refusal.proofs.Order.{IsOrdered, statements_in_order}
use Rattle.wt_refusal.proofs.Stands.{refusal_stands}

-- ---- the tokens

each_at : {X : Type 0} (P : X → Type 0) (xs : List X) (n : ℕ) (x : X) → slice_get xs n ≡ Some x → Each P xs → P x
each_at P [] n x e h = absurd cc
each_at P (y ∷ ys) zero x e h = let same : y ≡ x = cc in subst P same h.0
each_at P (y ∷ ys) (suc n) x e h = each_at P ys n x e h.1

file_in_order : (bytes : List ℕ) (r : Result (List Token) (LexFault × ℕ)) (file : File) → lexed bytes ≡ r → file_by bytes r ≡ Ok file → Each IsOrdered file.statements
file_in_order bytes (Ok tokens) file l e =
    let same : record { bytes = bytes; statements = statements (length bytes) tokens } ≡ file = cc in
    subst (λ f. Each IsOrdered f.statements) same (statements_in_order (length bytes) tokens (tokens_in_order bytes tokens l))
file_in_order bytes (Err f) file l e = absurd cc

tokens_back : (bytes : List ℕ) (ts : List Token) → map (λ t. t.token) (map (lexeme bytes) ts) ≡ ts
unfolding lexeme
tokens_back bytes [] = refl
tokens_back bytes (t ∷ ts) = ap (λ l. t ∷ l) (tokens_back bytes ts)

-- ---- the answer

same_kind : (f g : QueryFault) (a b : ℕ) → ◌≡◌ {A = Answer} (Err (refused f, a)) (Err (refused g, b)) → is_of_grammar g ≡ true → is_of_grammar f ≡ true
same_kind f g a b e h =
    let pair : ◌≡◌ {A = Refusal × ℕ} (refused f, a) (refused g, b) = cc in
    let why : refused f ≡ refused g = ap (λ p. p.0) pair in
    let same : f ≡ g = cc in
    subst (λ k. is_of_grammar k ≡ true) (sym same) h

module _ (f : QueryFault) (at : ℕ) (grammar : is_of_grammar f ≡ true) where
  barred_never : (o : Option (QueryFault × ℕ)) (q : QueryTree) → ((g : QueryFault) (n : ℕ) → o ≡ Some (g, n) → is_of_grammar g ≡ false) → unless o q ≡ Err (refused f, at) → ⊥
  barred_never None q none e = cc
  barred_never (Some x) q none e = let bad = sym (same_kind x.0 f x.1 at e grammar) ∙ none x.0 x.1 refl in cc

  crowded_kind : (c : Option ℕ) (g : QueryFault) (n : ℕ) → too_many c ≡ Some (g, n) → is_of_grammar g ≡ false
  crowded_kind (Some m) g n e =
      let pair : ◌≡◌ {A = QueryFault × ℕ} (fault.TooMany, m) (g, n) = cc in
      ap (λ z. is_of_grammar z.0) (sym pair)
  crowded_kind None g n e = absurd cc

  -- what bars a tree is no refusal of the grammar
  barred_kind : (h c : Option ℕ) (g : QueryFault) (n : ℕ) → hidden_or h (too_many c) ≡ Some (g, n) → is_of_grammar g ≡ false
  barred_kind (Some m) c g n e =
      let pair : ◌≡◌ {A = QueryFault × ℕ} (fault.InUnderOr, m) (g, n) = cc in
      ap (λ z. is_of_grammar z.0) (sym pair)
  barred_kind None c g n e = crowded_kind c g n e

  limited_inv : (r : Read QueryTree) → limited r ≡ Err (refused f, at) → r ≡ Err (refused f, at)
  limited_inv (Ok x) e = absurd (barred_never (barred (marks x.0)) x.0 (barred_kind _ _) e)
  limited_inv (Err (why, n)) e =
      let same : ◌≡◌ {A = Refusal × ℕ} (why, n) (refused f, at) = cc in
      λ i. Err (same i)

  lexical_inv : (o : Option (LexFault × ℕ)) (a : Answer) → lexical_or o a ≡ Err (refused f, at) → a ≡ Err (refused f, at)
  lexical_inv None a e = e
  lexical_inv (Some x) a e =
      let same : ◌≡◌ {A = Refusal × ℕ} (odd x.0, x.1) (refused f, at) = cc in
      let why : odd x.0 ≡ refused f = ap (λ p. p.0) same in
      absurd cc

  pub refused_by_grammar : (bytes : List ℕ) (s : Statement) → answer bytes s ≡ Err (refused f, at) → statement s.end bytes (map (lexeme bytes) s.tokens) ≡ Err (refused f, at)
  unfolding answer
  refused_by_grammar bytes s e =
      limited_inv (statement s.end bytes (map (lexeme bytes) s.tokens)) (lexical_inv (first_odd s.tokens) _ (short (is_too_long s) e))
    where
      short : (b : Bool) → (if b then Err (refused fault.TooLong, begin s s.tokens) else lexical_or (first_odd s.tokens) (limited (statement s.end bytes (map (lexeme bytes) s.tokens)))) ≡ Err (refused f, at)
          → lexical_or (first_odd s.tokens) (limited (statement s.end bytes (map (lexeme bytes) s.tokens))) ≡ Err (refused f, at)
      short true h = let bad = same_kind fault.TooLong f (begin s s.tokens) at h grammar in absurd cc
      short false h = h

-- A statement of a file that its grammar refuses is refused at the first token with which no sentence goes on.
pub refused_stands : (bytes : List ℕ) (file : File) (n : ℕ) (s : Statement) (f : QueryFault) (at : ℕ) → file_of bytes ≡ Ok file → slice_get file.statements n ≡ Some s
    → is_of_grammar f ≡ true → answer bytes s ≡ Err (refused f, at) → StandsAt s.end bytes (refused f) (map (lexeme bytes) s.tokens) at
refused_stands bytes file n s f at is here grammar e =
    let order = each_at IsOrdered file.statements n s here (file_in_order bytes (lexed bytes) file refl is) in
    refusal_stands s.end bytes (map (lexeme bytes) s.tokens) (refused f) at (subst (InOrder 0 s.end) (sym (tokens_back bytes s.tokens)) order)
    (refused_by_grammar f at grammar bytes s e)
