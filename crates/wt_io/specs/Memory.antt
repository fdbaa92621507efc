-- What the store in memory holds, and when it and the sink in memory fail.
use Rattle.std.specs.Prelude.{ℕ, ◌+◌, ◌<◌, ◌⊎◌, List, length, find, string_bytes, Contains, IsNone}
use Rattle.std.specs.Option.{option_map}
use Rattle.std.specs.declared.option.Option.{Option}
use Rattle.std.specs.Str.{bytes_eq}
use Rattle.wt_io.specs.declared.memory.MemFile.{MemFile}

-- the bytes of the first file of this name
abbrev pub file_bytes : List MemFile → List ℕ → Option (List ℕ)
file_bytes files name = option_map (λ file. file.bytes) (find (λ file. bytes_eq (string_bytes file.name) name) files)

-- a read fails where its call is listed, and where the name is absent
abbrev pub ReadFails : List ℕ → ℕ → List MemFile → List ℕ → Type 0
ReadFails fails call files name = Contains fails call ⊎ IsNone (file_bytes files name)

-- a write fails where its call is listed, and where the piece would pass the room
abbrev pub WriteFails : List ℕ → ℕ → ℕ → List ℕ → List ℕ → Type 0
WriteFails fails call room bytes piece = Contains fails call ⊎ (room < length bytes + length piece)
