-- Of private contracts: the places of primary keys, which are looked for once.
use Rattle.std.specs.Prelude.{◌≡◌, position, map, ℕ, List, Option}
use Rattle.wt_schema.specs.declared.schema.Key.{Key}
use Rattle.wt_ddl.specs.declared.table.TableRead.{TableRead}
use Rattle.wt_ddl.specs.declared.places.KeyPlaces.{KeyPlaces}

-- the place of the first primary key
abbrev pub primary_place : List Key → Option ℕ
primary_place keys = position (λ k. k.primary) keys

-- each table's primary key stands where its places say
abbrev pub Placed : List TableRead → List KeyPlaces → Type 0
Placed tables places = map (λ p. p.primary) places ≡ map (λ t. primary_place t.keys) tables
