-- The place in a file of the token of a number, which is its first byte; past the last token it is the file's end.
use Rattle.std.specs.Prelude.{ℕ, List, Option, Some, None, slice_get}
use Rattle.res_lexer.specs.declared.token.Token.{Token}

abbrev pub place_or : Option Token → ℕ → ℕ
place_or None end = end
place_or (Some t) end = t.at

abbrev pub place_of : List Token → ℕ → ℕ → ℕ
place_of ts number end = place_or (slice_get ts number) end
