-- A session of the job: what its client sends, and what its dials give.
use Rattle.std.specs.Prelude.{ℕ, ◌*◌, List, [], ◌++◌, map, codes, decimal, replicate}
use Rattle.std.specs.Str.{byte}
use Rattle.std.specs.List.{flat_map, range_with_len}
use Rattle.px_base.specs.declared.dials.Answer.{Answer}
use Rattle.px_base.specs.declared.dials.Answer.TheVariants as answer
use Rattle.px_generated.specs.Draws.{after_draws, first_draw, second_draw, third_draw}
use Rattle.px_generated.specs.Files.{host_and_path}
use Rattle.px_generated.specs.declared.sessions.JobSession.{JobSession}

-- a request for a host and a path
unfoldable pub generated_request : ℕ → ℕ → List ℕ
generated_request host path = codes "GET http://" ++ host_and_path host path ++ codes " HTTP/1.1\r\n\r\n"

-- what stands in an answer before its length
unfoldable pub answer_front : List ℕ
answer_front = codes "HTTP/1.1 200 OK\r\nContent-Type: text/html\r\nSet-Cookie: s=1\r\nContent-Length: "

-- an answer with so many bytes of body
unfoldable pub answer_bytes : ℕ → List ℕ
answer_bytes count = answer_front ++ decimal count ++ codes "\r\n\r\n" ++ replicate count (byte "a")

-- a link that gives bytes to their end, in one piece and without faults
abbrev pub plain_link : List ℕ → Answer
plain_link bytes = answer.Link bytes [] [] []

-- the request, and the answer to it, that three draws from x on make
unfoldable pub request_from : ℕ → List ℕ
request_from x = generated_request (first_draw 100 x) (second_draw 50 x)

unfoldable pub answer_from : ℕ → Answer
answer_from x = plain_link (answer_bytes (third_draw 2000 x))

-- so many requests, each by its own three draws
unfoldable pub requests : ℕ → ℕ → List ℕ
requests count x = flat_map (λ k. request_from (after_draws (3 * k) x)) (range_with_len 0 count)

-- the answers to them
unfoldable pub answers : ℕ → ℕ → List Answer
answers count x = map (λ k. answer_from (after_draws (3 * k) x)) (range_with_len 0 count)

-- the session of a hundred requests that the draws from x on make
unfoldable pub session_from : ℕ → JobSession
session_from x = record { input = requests 100 x; answers = answers 100 x }
