-- Requests in HTTP/1.1 (RFC 9112), in bytes.
use Rattle.std.specs.Prelude.{◌≡◌, ◌≤◌, ℕ, true, List, [], ◌∷◌, ◌++◌, length, codes, decimal, encode_utf8_all}
use Rattle.std.specs.List.{list_all}
use Rattle.std.specs.Str.{all_scalars}
use Rattle.mt_tree.specs.declared.data.Data.{Data}
use Rattle.mt_syntax.specs.Data.{is_data}
use Rattle.mt_syntax.specs.DataText.{arguments_text}
use Rattle.mt_http_types.specs.Target.{IsTarget}
use Rattle.mt_http_types.specs.declared.request.Call.{Call}
use Rattle.mt_http_types.specs.declared.request.Request.{Request}
use Rattle.mt_http_types.specs.declared.request.Request.TheVariants.{Load, Post}
use Rattle.mt_http_types.specs.Lines.{crlf, line}
use Rattle.mt_http_request.specs.Targets.{service_path}

-- the rest of a load's head, behind its target
unfoldable pub load_end : List ℕ
load_end = line (codes " HTTP/1.1") (line (codes "Host: localhost") (line (codes "Connection: close") crlf))

-- the request of a page, by its target
abbrev pub load_text : List ℕ → List ℕ
load_text target = codes "GET " ++ (target ++ load_end)

-- what stands in a post's head between the path and the length of the body
unfoldable pub post_middle : List ℕ
post_middle =
    line (codes " HTTP/1.1") (line (codes "Host: localhost") (line (codes "Content-Type: application/json") (codes "Content-Length: ")))

-- the rest of a post's head
unfoldable pub post_end : List ℕ
post_end = crlf ++ line (codes "Connection: close") crlf

abbrev pub post_head : List ℕ → ℕ → List ℕ
post_head service size = codes "POST " ++ (service_path service ++ (post_middle ++ (decimal size ++ post_end)))

-- the call of a service, by its name and its arguments
abbrev pub post_text : List ℕ → List Data → List ℕ
post_text service arguments = post_head service (length (arguments_text arguments)) ++ arguments_text arguments

abbrev pub request_text : Request → List ℕ
request_text (Load target) = load_text (encode_utf8_all target.0)
request_text (Post call) = post_text call.service call.arguments

-- a call of the language, whose body is no longer than a server reads
pub record IsCall (call : Call) : Type 0 where
  pub service : all_scalars call.service ≡ true
  pub arguments : list_all is_data call.arguments ≡ true
  pub size : length (arguments_text call.arguments) ≤ 4194304

-- a request of the language: a load of a target, or such a call
abbrev pub IsRequest : Request → Type 0
IsRequest (Load target) = IsTarget target
IsRequest (Post call) = IsCall call
