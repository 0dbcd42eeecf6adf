-- Texts as bytes. Assumes nothing.
use Rattle.std.specs.Prelude.{List, [] as none, ◌∷◌ as ◌then◌, ℕ}
use Prim.Native.Char.{code}
use Prim.Native.String.{String, [], ◌∷◌}

-- the bytes of a text of ASCII characters
unfoldable pub bytes : String → List ℕ
bytes [] = none
bytes (c ∷ rest) = code c then bytes rest
