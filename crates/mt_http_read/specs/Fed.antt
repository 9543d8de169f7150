-- The bytes that a reader of requests was fed.
use Rattle.std.specs.Prelude.{List, ℕ}
use Rattle.mt_http_stream.specs.Fed as stream
use Rattle.mt_http_read.specs.declared.reader.RequestReader.{RequestReader}

-- the reader stands for these services, and all pieces that it was fed, joined, are these bytes
abbrev pub WasFed : RequestReader → List (List ℕ) → List ℕ → Type 0
WasFed reader services fed = stream.WasFed reader.stream services fed
