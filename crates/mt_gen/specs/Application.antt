-- The application that is generated: a page with a button, and the service that counts its clicks.
use Rattle.std.specs.Prelude.{ℕ, List, codes}

unfoldable pub application_text : List ℕ
application_text = codes "var n = 0;\nservice hit(k) { n += k; return n; }\nservice main() { return <div><p id=\"out\">0</p><button id=\"b\" onclick=~{ ${hit}(1).post(function (r) { document.getElementById(\"out\").textContent = String(r); }); }>hit</button></div>; }\n"
