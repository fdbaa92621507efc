-- A list of rules made ready for rewriting.
use Rattle.std.specs.Prelude.{◌≡◌, ◌<◌, ◌^◌, length, map}
use Rattle.wt_symbol.specs.Sides.{pair_of}
use Rattle.wt_rule.specs.declared.Rule.{Rule}
use Rattle.wt_match.specs.Asking.{asked}
use Rattle.wt_chains.specs.Chains.{AreLawful}
use Rattle.wt_rewrite.specs.declared.book.Book.{Book}
use Rattle.wt_rewrite.specs.Runs.{AreRuns}

-- the pairs of the book's rules are lawful, the book has for each rule the atoms that it asks for, and it has the runs of the rules
pub record IsReady (book : Book) : Type 0 where
  pub lawful : AreLawful book.rules
  pub atoms : book.atoms ≡ map (λ (r : Rule). asked (pair_of r.pair) r.set) book.rules
  pub runs : AreRuns book.rules 0 book.runs.items
  pub few : length book.rules < 2 ^ 32
