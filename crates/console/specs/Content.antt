-- What a line buffer holds.
use Rattle.std.specs.Prelude.{ℕ, List}
use Rattle.console.specs.declared.buffer.LineBuffer.{LineBuffer}

abbrev pub content : LineBuffer → List ℕ
content b = b.bytes.items
