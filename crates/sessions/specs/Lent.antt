-- The bytes that a reader was lent.
use Rattle.std.specs.Prelude.{ℕ, List}
use Rattle.sessions.specs.declared.reader.Reader.{Reader}

abbrev pub lent : Reader → List ℕ
lent r = r.bytes.now
