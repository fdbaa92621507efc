-- When the text of a query reads back: the limits that it has to be within, and what is read.
use Rattle.std.specs.Prelude.{◌≡◌, ℕ, ◌≤◌, List, [], ◌∷◌, length, Ok, None}
use Rattle.wt_ast.specs.Tree.{QueryTree, without_places}
use Rattle.wt_ast.specs.Marks.{marks}
use Rattle.wt_grammar.specs.Statements.{File, Statement, file_of, answer, barred}
use Rattle.wt_spelling.specs.Levels.{levels}

-- The limits of a statement that is read: 65,536 bytes before its `;`, 32 levels of nesting, 256 FROM items, 256 conjuncts;
-- and each `x IN (query)` is a conjunct.
pub record IsWithin (line : List ℕ) (query : QueryTree) : Type 0 where
  pub bytes : length line ≤ 65537
  pub nesting : levels query ≤ 32
  pub parts : barred (marks query) ≡ None

-- The bytes are a file with one statement, which is read as a query that is the same apart from offsets.
pub record ReadsAs (line : List ℕ) (query : QueryTree) : Type 0 where
  pub file : File
  pub statement : Statement
  pub answered : QueryTree
  pub falls : file_of line ≡ Ok file
  pub alone : file.statements ≡ statement ∷ []
  pub is_read : answer file.bytes statement ≡ Ok answered
  pub same : without_places answered ≡ without_places query
