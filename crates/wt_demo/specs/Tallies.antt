-- What is counted of statements, as far as 64 bits go.
use Rattle.std.specs.Prelude.{ℕ, ◌+◌, ◌-◌, ◌^◌, min}
use Rattle.wt_demo.specs.declared.tally.Tally.{Tally}

abbrev pub limited : ℕ → ℕ
limited n = min n (2 ^ 64 - 1)

abbrev pub tally : ℕ → ℕ → ℕ → ℕ → ℕ → Tally
tally printed refused matches before after = record { printed = printed; refused = refused; matches = matches; before = before; after = after }

abbrev pub nothing_counted : Tally
nothing_counted = tally 0 0 0 0 0

-- a statement that is refused
abbrev pub one_refused : Tally
one_refused = tally 0 1 0 0 0

-- one that is rewritten by so many matches, with the costs of the first and the last plan
abbrev pub one_printed : ℕ → ℕ → ℕ → Tally
one_printed matches before after = tally 1 0 matches (limited before) (limited after)

abbrev pub both : Tally → Tally → Tally
both a b = tally (limited (a.printed + b.printed)) (limited (a.refused + b.refused)) (limited (a.matches + b.matches)) (limited (a.before + b.before)) (limited (a.after + b.after))
