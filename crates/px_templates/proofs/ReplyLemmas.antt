-- A head, part by part.
use Rattle.std.proofs.Common.{◌≡◌, ℕ, Bool, List, ◌++◌, append_assoc}
use Rattle.std.specs.Prelude.{codes}
use Rattle.std.specs.Fmt.{decimal}
use Rattle.px_templates.specs.declared.replies.Local.{Local}
use Rattle.px_templates.specs.Replies.{close_word, reply_crlf, reply_field, first_name, first_value, head_of, reply_status_line, status_of}

six : (out a b c d e f : List ℕ) → (((((out ++ a) ++ b) ++ c) ++ d) ++ e) ++ f ≡ out ++ (((((a ++ b) ++ c) ++ d) ++ e) ++ f)
six out a b c d e f = simp append_assoc

pub head_steps : (kind : Local) (n : ℕ) (close : Bool) (out one two three four five status name value len word : List ℕ) →
    status ≡ status_of kind → name ≡ first_name kind → value ≡ first_value kind → len ≡ decimal n → word ≡ close_word close →
    one ≡ out ++ reply_status_line status → two ≡ one ++ reply_field name value → three ≡ two ++ reply_field (codes "Content-Length") len →
    four ≡ three ++ reply_field (codes "Cache-Control") (codes "no-cache") → five ≡ four ++ reply_field (codes "Connection") word →
    five ++ reply_crlf ≡ out ++ head_of kind n close
unfolding head_of
head_steps kind n close out one two three four five status name value len word s nm v l w a b c d e =
    rw (e, d, c, b, a, s, nm, v, l, w)
    (six out (reply_status_line (status_of kind)) (reply_field (first_name kind) (first_value kind)) (reply_field (codes "Content-Length") (decimal n))
    (reply_field (codes "Cache-Control") (codes "no-cache")) (reply_field (codes "Connection") (close_word close)) reply_crlf)
