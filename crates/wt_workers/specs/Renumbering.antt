-- Entries under another pair number. Private contracts alone cite this file.
use Rattle.std.specs.Prelude.{ℕ}
use Rattle.wt_board.specs.declared.words.Entry.{Entry}

abbrev pub renumber : ℕ → Entry → Entry
renumber p e = record { pair = p; set = e.set; verdict = e.verdict }
