-- The tokens of each statement of a file stand in order.
use Rattle.std.proofs.Common.{ℕ, ◌+◌, ◌≤◌, Bool, true, false, List, [], ◌∷◌, arith}
use Rattle.std.specs.Prelude.{if◌then◌else◌}
use Rattle.wt_bag.specs.Bags.{Each}
use Rattle.wt_bag.proofs.EachLaws.{each_filter}
use Rattle.wt_lex.specs.declared.token.Token.{Token}
use Rattle.wt_lex.specs.Sound.{InOrder}
use Rattle.wt_grammar.specs.Statements.{Statement, is_semicolon, add, cut, has_tokens, statements}

abbrev pub IsOrdered : Statement → Type 0
IsOrdered s = InOrder 0 s.end s.tokens

from_none : (start end : ℕ) (ts : List Token) → InOrder start end ts → InOrder 0 end ts
from_none start end [] h = tt
from_none start end (t ∷ ts) h = (omega arith, h.1, h.2, h.3)

-- the first begins at a place or behind it
abbrev BeginsAt : ℕ → List Statement → Type 0
BeginsAt start [] = ⊥
BeginsAt start (s ∷ rest) = (start ≤ s.end) × InOrder start s.end s.tokens × Each IsOrdered rest

each_of : (start : ℕ) (all : List Statement) → BeginsAt start all → Each IsOrdered all
each_of start [] h = absurd h
each_of start (s ∷ rest) h = (from_none start s.end s.tokens h.1, h.2)

added : (start : ℕ) (t : Token) (all : List Statement) → start ≤ t.start → t.start + 1 ≤ t.end → BeginsAt t.end all → BeginsAt start (add t all)
added start t [] l m h = absurd h
added start t (s ∷ rest) l m h = (omega (arith, l, m, h.0), (l, omega (arith, m), h.0, h.1), h.2)

cut_in_order : (start size : ℕ) (ts : List Token) → start ≤ size → InOrder start size ts → BeginsAt start (cut size ts)
cut_in_order start size [] l h = (l, tt, tt)
cut_in_order start size (t ∷ ts) l h = by (is_semicolon t.kind) (cut_in_order t.end size ts h.2 h.3)
  where
    by : (b : Bool) → BeginsAt t.end (cut size ts) → BeginsAt start (if b then record { tokens = []; end = t.start } ∷ cut size ts else add t (cut size ts))
    by true rest = (h.0, tt, each_of t.end (cut size ts) rest)
    by false rest = added start t (cut size ts) h.0 (omega (arith, h.1)) rest

pub statements_in_order : (size : ℕ) (ts : List Token) → InOrder 0 size ts → Each IsOrdered (statements size ts)
statements_in_order size ts h = each_filter IsOrdered has_tokens (cut size ts) (each_of 0 (cut size ts) (cut_in_order 0 size ts (omega arith) h))
