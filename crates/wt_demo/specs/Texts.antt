-- The texts of the demonstration: its schema, its rules and its statements.
use Rattle.std.specs.Prelude.{ℕ, ◌==◌, ◌∷◌, ◌++◌, List, [], codes, if◌then◌else◌}
use Rattle.std.specs.Fmt.{decimal}

-- a line with its end
abbrev pub line : List ℕ → List ℕ
line text = text ++ 10 ∷ []

-- customers, and orders that refer to them by a column that may be NULL and by one that is not
abbrev pub schema_text : List ℕ
schema_text =
    line (codes "CREATE TABLE cust (id INTEGER PRIMARY KEY, name TEXT);")
    ++ line (codes "CREATE TABLE o (id INTEGER PRIMARY KEY, c INTEGER REFERENCES cust (id), d INTEGER NOT NULL REFERENCES cust (id), k INTEGER UNIQUE);")

-- a LEFT JOIN without its columns, one that becomes an INNER JOIN, an INNER JOIN that becomes an IN, an IN that always holds, a DISTINCT
-- of rows that differ
abbrev pub rules_text : List ℕ
rules_text =
    line (codes "wetune-rules 1 steps=8")
    ++ (line (codes "Proj<a0@r0>(LeftJoin<a1@r0,a2@r1>(r0,r1)) => Proj<a0>(r0) | Unique(r1,a2)")
    ++ (line (codes "LeftJoin<a0@r0,a1@r1>(r0,r1) => InnerJoin<a0,a1>(r0,r1) | NotNull(r0,a0) RefAttrs(r0,a0,r1,a1)")
    ++ (line (codes "Proj<a0@r0>(InnerJoin<a1@r0,a2@r1>(r0,r1)) => Proj<a0>(InSub<a1>(r0,Proj<a2>(r1))) | Unique(r1,a2)")
    ++ (line (codes "InSub<a0@r0>(r0,Proj<a1@r1>(r1)) => r0 | NotNull(r0,a0) RefAttrs(r0,a0,r1,a1)")
    ++ (line (codes "Dedup(Proj<a0@r0>(r0)) => Proj<a0>(r0) | Unique(r0,a0) NotNull(r0,a0)")
    ++ line (codes "end 5"))))))

-- the statement of a kind, 0 to 6, with a number; the last kind has an ORDER BY, which is refused, and no number
abbrev pub statement_text : ℕ → ℕ → List ℕ
statement_text kind n =
    if kind == 0 then codes "SELECT o.id FROM o LEFT JOIN cust ON o.c = cust.id WHERE o.k = " ++ (decimal n ++ codes ";")
    else if kind == 1 then codes "SELECT o.id FROM o INNER JOIN cust ON o.c = cust.id WHERE o.k = " ++ (decimal n ++ codes ";")
    else if kind == 2 then codes "SELECT o.id FROM o INNER JOIN cust ON o.d = cust.id WHERE o.k = " ++ (decimal n ++ codes ";")
    else if kind == 3 then codes "SELECT o.id, cust.name FROM o LEFT JOIN cust ON o.d = cust.id WHERE o.k = " ++ (decimal n ++ codes ";")
    else if kind == 4 then codes "SELECT DISTINCT o.id FROM o WHERE o.k = " ++ (decimal n ++ codes ";")
    else if kind == 5 then codes "SELECT DISTINCT o.k FROM o WHERE o.c < " ++ (decimal n ++ codes ";")
    else codes "SELECT o.id FROM o ORDER BY o.id;"
