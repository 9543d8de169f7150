-- The bytes that readers of replies were fed.
use Rattle.std.specs.Prelude.{List, ℕ}
use Rattle.mt_http_reply.specs.declared.stream.ReplyStream.{ReplyStream}
use Rattle.mt_http_reply.specs.declared.reader.ReplyReader.{ReplyReader}
use Rattle.mt_http_reply.specs.Reading.{HasBody}
use Rattle.mt_http_reply.specs.Stream.{IsFed}

-- all pieces that the stream was fed, joined, are these bytes
abbrev pub StreamWasFed : ReplyStream → List ℕ → Type 0
StreamWasFed stream fed = IsFed stream.progress fed

-- all pieces that the reader was fed, joined, are these bytes
abbrev pub ReaderWasFed : ReplyReader → List ℕ → Type 0
ReaderWasFed reader fed = StreamWasFed reader.stream fed × HasBody fed reader.body.items
