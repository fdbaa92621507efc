-- The text of a query reads back.
use Rattle.std.proofs.Common.{◌≡◌, ℕ, ◌+◌, ◌-◌, ◌≤◌, Bool, true, false, List, [], ◌∷◌, ◌++◌, length, refl, ap, sym, ◌∙◌, subst, arith, append_assoc, length-append, Option, None, Ok, Err, codes}
use Rattle.std.specs.Prelude.{map, filter, if◌then◌else◌, not, ◌==◌}
use Rattle.std.specs.List.{AllByRecursion}
use Rattle.std.specs.Str.{IsUtf8}
use Rattle.std.proofs.lemmas.Bool.Decides.{nat_tests}
use Rattle.wt_lex.specs.declared.token.LexFault.{LexFault}
use Rattle.wt_lex.specs.declared.token.Sym.TheVariants as sym
use Rattle.wt_lex.specs.declared.token.Token.{Token}
use Rattle.wt_lex.specs.declared.token.TokenKind.TheVariants as kinds
use Rattle.wt_lex.specs.Spelling.{Piece, item, written, made, token, tokens_at, quoted, FallsInto, all_written}
use Rattle.wt_lex.specs.Tokens.{lexed}
use Rattle.wt_lex.proofs.Falling.{falls_have}
use Rattle.wt_lex.proofs.Symbols.{longest_end}
use Rattle.wt_lex.specs.Words.{is_bare}
use Rattle.wt_ast.specs.Tree.{QueryTree, select}
use Rattle.wt_ast.specs.Marks.{marks}
use Rattle.wt_ast.specs.Lawful.{IsFormed}
use Rattle.wt_reading.specs.Lexemes.{lexeme}
use Rattle.wt_grammar.specs.declared.fault.QueryFault.{QueryFault}
use Rattle.wt_grammar.specs.declared.fault.QueryFault.TheVariants as fault
use Rattle.wt_grammar.specs.Reading.{refused, statement}
use Rattle.wt_grammar.specs.Statements.{Statement, file_by, statements, cut, add, is_semicolon, has_tokens, begin, is_too_long, odd_or, first_odd, barred, unless, limited, lexical_or, answer}
use Rattle.wt_sentence.proofs.Complete.{complete}
use Rattle.wt_spelling.specs.Numbers.{Fits}
use Rattle.wt_spelling.specs.ReadingBack.{IsWithin, ReadsAs}
use Rattle.wt_spelling.specs.Spelling.{statement_text}
use Rattle.wt_spelling.proofs.Bits.{Bit, a_blank, a_word, a_sign, a_name, a_number, a_text, piece_of, query_bits}
use Rattle.wt_spelling.proofs.Shown.{cuts_show, cuts_fall, cuts_bit}
use Rattle.wt_spelling.proofs.Standing.{Cuts}
use Rattle.wt_spelling.proofs.Spelled.{query_tight}
use Rattle.wt_spelling.proofs.ReadQueries.{query_read}
use Rattle.wt_spelling.proofs.ReadMarks.{same_limits}
use Rattle.wt_spelling.proofs.Utf8.{low_utf8, cuts_utf8}

-- ---- pieces and a semicolon behind them

abbrev semi : Piece
semi = item (kinds.Symbol sym.Semi) (codes ";")

fall_append : (ps qs : List Piece) (left mid text : List ℕ) → FallsInto ps mid text → FallsInto qs left mid → FallsInto (ps ++ qs) left text
fall_append [] qs left mid text e f = subst (FallsInto qs left) (sym e) f
fall_append (p ∷ ps) qs left mid text (rest, e, s, c) f = (rest, e, s, fall_append ps qs left mid rest c f)

tokens_append : (ps qs : List Piece) (at : ℕ) → tokens_at at (ps ++ qs) ≡ tokens_at at ps ++ tokens_at (at + length (all_written ps)) qs
tokens_append [] qs at = let e : at ≡ at + 0 = omega arith in ap (λ n. tokens_at n qs) e
tokens_append (p ∷ ps) qs at =
    let e : at + length (written p) + length (all_written ps) ≡ at + length (all_written (p ∷ ps)) = omega (arith, length-append (written p) (all_written ps)) in
    ap (λ l. made at p ++ l) (tokens_append ps qs (at + length (written p)) ∙ ap (λ n. tokens_at (at + length (written p)) ps ++ tokens_at n qs) e)
    ∙ sym (append_assoc (made at p) (tokens_at (at + length (written p)) ps) (tokens_at (at + length (all_written (p ∷ ps))) qs))

cuts_written : (bs : List Bit) (left text : List ℕ) → Cuts bs left text → text ≡ all_written (map piece_of bs) ++ left
cuts_written [] left text e = e
cuts_written (b ∷ bs) left text (rest, e, s, c) =
    e ∙ (λ i. sym (cuts_bit b) i ++ cuts_written bs left rest c i) ∙ sym (append_assoc (written (piece_of b)) (all_written (map piece_of bs)) left)

-- ---- no token ends the statement or is refused wherever it stands

abbrev IsClean : Token → Type 0
IsClean t = (is_semicolon t.kind ≡ false) × ((at : ℕ) (o : Option (LexFault × ℕ)) → odd_or t.kind at o ≡ o)

all_clean : (bs : List Bit) (at : ℕ) (left text : List ℕ) → Cuts bs left text → AllByRecursion IsClean (tokens_at at (map piece_of bs))
all_clean [] at left text e = tt
all_clean (a_blank ∷ bs) at left text (rest, e, s, c) = all_clean bs _ left rest c
all_clean (a_word w ∷ bs) at left text (rest, e, s, c) = ((refl, λ at o. refl), all_clean bs _ left rest c)
all_clean (a_sign x ∷ bs) at left text (rest, e, s, c) = ((s.0, λ at o. refl), all_clean bs _ left rest c)
all_clean (a_number n ∷ bs) at left text (rest, e, s, c) = ((refl, λ at o. refl), all_clean bs _ left rest c)
all_clean (a_text x ∷ bs) at left text (rest, e, s, c) = ((refl, λ at o. refl), all_clean bs _ left rest c)
all_clean (a_name n ∷ bs) at left text (rest, e, s, c) = by (is_bare n) (all_clean bs _ left rest c)
  where
    by : (t : Bool) → AllByRecursion IsClean (tokens_at (at + length (written (piece_of (a_name n)))) (map piece_of bs))
        → AllByRecursion IsClean (made at (if t then item kinds.Word n else item kinds.Quoted (quoted 34 n)) ++ tokens_at (at + length (written (piece_of (a_name n)))) (map piece_of bs))
    by true others = ((refl, λ at o. refl), others)
    by false others = ((refl, λ at o. refl), others)

none_odd : (ts : List Token) → AllByRecursion IsClean ts → first_odd ts ≡ None
none_odd [] h = refl
none_odd (t ∷ ts) h = h.0.1 t.start (first_odd ts) ∙ none_odd ts h.1

cut_once : (size at : ℕ) (ts : List Token) → AllByRecursion IsClean ts
    → cut size (ts ++ token (kinds.Symbol sym.Semi) at 1 ∷ []) ≡ record { tokens = ts; end = at } ∷ record { tokens = []; end = size } ∷ []
cut_once size at [] h = refl
cut_once size at (t ∷ ts) h =
    ap (λ b. if b then record { tokens = []; end = t.start } ∷ cut size (ts ++ token (kinds.Symbol sym.Semi) at 1 ∷ []) else add t (cut size (ts ++ token (kinds.Symbol sym.Semi) at 1 ∷ []))) h.0.0
    ∙ ap (add t) (cut_once size at ts h.1)

one_statement : (size at : ℕ) (t : Token) (ts : List Token) → AllByRecursion IsClean (t ∷ ts)
    → statements size ((t ∷ ts) ++ token (kinds.Symbol sym.Semi) at 1 ∷ []) ≡ record { tokens = t ∷ ts; end = at } ∷ []
one_statement size at t ts h =
    ap (filter has_tokens) (cut_once size at (t ∷ ts) h)
    ∙ ap (λ b. if b then record { tokens = t ∷ ts; end = at } ∷ [] else []) (there t ts)
  where
    there : (t : Token) (ts : List Token) → has_tokens (record { tokens = t ∷ ts; end = at }) ≡ true
    there t ts = let e : (length (t ∷ ts) == 0) ≡ false = grind (arith, nat_tests) in ap not e

-- ---- the answer

unless_none : (o : Option (QueryFault × ℕ)) (q : QueryTree) → o ≡ None → unless o q ≡ Ok q
unless_none o q e = ap (λ o. unless o q) e

answered : (bytes : List ℕ) (s : Statement) (q : QueryTree) (n : ℕ) → s.end - begin s s.tokens ≤ 65536 → first_odd s.tokens ≡ None
    → statement s.end bytes (map (lexeme bytes) s.tokens) ≡ Ok (q, n) → barred (marks q) ≡ None → answer bytes s ≡ Ok q
unfolding answer
answered bytes s q n short odd is free =
    let fits : is_too_long s ≡ false = grind (arith, nat_tests) in
    ap (λ b. if b then Err (refused fault.TooLong, begin s s.tokens) else lexical_or (first_odd s.tokens) (limited (statement s.end bytes (map (lexeme bytes) s.tokens)))) fits
    ∙ (λ i. lexical_or (odd i) (limited (is i)))
    ∙ unless_none (barred (marks q)) q free

-- ---- the whole line

pub reads_back : (q : QueryTree) → IsFormed q → Fits q → IsWithin (statement_text q) q → ReadsAs (statement_text q) q
reads_back (select d is from filter) formed fits within =
    let q = select d is from filter in
    let line = statement_text q in
    let ps = map piece_of (query_bits q) in
    let cuts : Cuts (query_bits q) (codes ";") line = (query_tight q formed fits).tight (codes ";") refl in
    let falls : FallsInto (ps ++ semi ∷ []) [] line = fall_append ps (semi ∷ []) [] (codes ";") line (cuts_fall (query_bits q) (codes ";") line cuts) ([], refl, (refl, longest_end (codes ";")), refl) in
    let size : length line ≡ length (all_written ps) + 1 = ap length (cuts_written (query_bits q) (codes ";") line cuts) ∙ length-append (all_written ps) (codes ";") in
    let text : IsUtf8 line = cuts_utf8 (query_bits q) (codes ";") line (low_utf8 (codes ";") refl) cuts in
    let tokens = tokens_at 0 ps in
    let at = 0 + length (all_written ps) in
    let lexes : lexed line ≡ Ok (tokens ++ token (kinds.Symbol sym.Semi) at 1 ∷ []) =
    falls_have line (ps ++ semi ∷ []) (omega (arith, within.bytes)) text falls ∙ ap Ok (tokens_append ps (semi ∷ []) 0) in
    let clean = all_clean (query_bits q) 0 (codes ";") line cuts in
    let shows = cuts_show line (query_bits q) [] (codes ";") line refl cuts in
    let ts = map (lexeme line) tokens in
    let (answer_tree, derives, same) = query_read at line q 32 formed fits within.nesting ts shows in
    let s : Statement = record { tokens = tokens; end = at } in
    let is : statement at line ts ≡ Ok (answer_tree, length ts) = complete at line answer_tree ts derives in
    record {
      file = record { bytes = line; statements = s ∷ [] };
      statement = s;
      answered = answer_tree;
      falls = ap (file_by line) lexes ∙ ap (λ ss. Ok (record { bytes = line; statements = ss })) (one_statement (length line) at _ _ clean);
      alone = refl;
      is_read = answered line s answer_tree (length ts) (omega (arith, within.bytes, size)) (none_odd tokens clean) is (same_limits answer_tree q same within.parts);
      same = same;
    }
