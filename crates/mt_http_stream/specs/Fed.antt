-- The bytes that a stream of requests was fed.
use Rattle.std.specs.Prelude.{◌≡◌, List, ℕ}
use Rattle.mt_http_stream.specs.Progress.{IsFed}
use Rattle.mt_http_stream.specs.declared.stream.RequestStream.{RequestStream}

-- the stream stands for these services, and all pieces that it was fed, joined, are these bytes
abbrev pub WasFed : RequestStream → List (List ℕ) → List ℕ → Type 0
WasFed stream services fed = (stream.services ≡ services) × IsFed services stream.progress fed
