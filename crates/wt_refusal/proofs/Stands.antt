-- Of tokens that stand in order a place belongs to one of them, or is the end.
use Rattle.std.proofs.Common.{◌≡◌, ℕ, ◌≤◌, List, [], ◌∷◌, ◌++◌, refl, ap, sym, ◌∙◌, arith, Err, subst}
use Rattle.std.specs.Prelude.{map}
use Rattle.wt_lex.specs.Sound.{InOrder}
use Rattle.wt_reading.specs.Lexemes.{Tokens, place}
use Rattle.wt_grammar.specs.Reading.{Refusal, statement}
use Rattle.wt_viable.specs.Sentences.{BeginsSome}
use Rattle.wt_refusal.specs.Refused.{StandsAt}
use Rattle.wt_viable.proofs.BeginsStatements.{refusal_begins}
use Rattle.wt_refusal.proofs.Ends.{refusal_ends}

abbrev Ordered : ℕ → ℕ → Tokens → Type 0
Ordered from end ts = InOrder from end (map (λ t. t.token) ts)

-- what stands behind tokens stands behind where they begin
place_behind : (from end : ℕ) (a b : Tokens) → from ≤ end → Ordered from end (a ++ b) → from ≤ place end b
place_behind from end [] [] h o = h
place_behind from end [] (t ∷ b) h o = o.0
place_behind from end (t ∷ a) b h o = let least = place_behind t.token.end end a b o.2 o.3 in omega (arith, o.0, o.1, least)

-- there is one way to cut tokens at a place
one_place : (from end : ℕ) (a b c d : Tokens) → Ordered from end (a ++ b) → a ++ b ≡ c ++ d → place end b ≡ place end d → (a ≡ c) × (b ≡ d)
one_place from end [] b [] d o e p = (refl, e)
one_place from end [] [] (u ∷ c) d o e p = absurd cc
one_place from end [] (t ∷ b) (u ∷ c) d o e p =
    let rest : b ≡ c ++ d = cc in
    let least = place_behind t.token.end end c d o.2 (subst (Ordered t.token.end end) rest o.3) in
    absurd (omega (arith, o.1, least, p))
one_place from end (t ∷ a) b [] [] o e p = absurd cc
one_place from end (t ∷ a) b [] (u ∷ d) o e p =
    let same : t ≡ u = cc in
    let least = place_behind t.token.end end a b o.2 o.3 in
    let start : t.token.start ≡ u.token.start = ap (λ z. z.token.start) same in
    absurd (omega (arith, o.1, least, p, start))
one_place from end (t ∷ a) b (u ∷ c) d o e p =
    let same : t ≡ u = cc in
    let rest : a ++ b ≡ c ++ d = cc in
    let (f, g) = one_place t.token.end end a b c d o.3 rest p in
    ((λ i. same i ∷ f i), g)

-- A refusal stands at the first token with which no sentence goes on.
pub refusal_stands : (end : ℕ) (bytes : List ℕ) (ts : Tokens) (why : Refusal) (at : ℕ) → InOrder 0 end (map (λ t. t.token) ts) → statement end bytes ts ≡ Err (why, at) → StandsAt end bytes why ts at
refusal_stands end bytes ts why at o h =
    let (a, b, e, p, begins) = refusal_begins end bytes ts why at h in
    let (c, d, f, q, ends) = refusal_ends end bytes ts why at h in
    let (same, rest) = one_place 0 end a b c d (subst (Ordered 0 end) e o) (sym e ∙ f) (sym p ∙ q) in
    (c, d, f, q, (subst (BeginsSome end bytes) same begins, ends))
