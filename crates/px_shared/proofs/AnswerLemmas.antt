-- What follows a whole answer changes nothing of what is due for it.
use Rattle.std.proofs.Common.{◌≡◌, ◌↔◌, ◌⊎◌, inl, inr, ℕ, suc, ◌+◌, ◌≤◌, Bool, true, false, nat_le, List, [], ◌∷◌, ◌++◌, length, take, drop, sym, ap, refl, subst, ◌∙◌, append_assoc, append-nil, length-append, arith, Ok, Some, None, Option, codes, add-one}
use Rattle.std.specs.Str.{bytes_eq}
use Rattle.std.specs.Prelude.{min, if◌then◌else◌}
use Rattle.std.proofs.lemmas.List.{take-append-le}
use Rattle.std.proofs.lemmas.Bool.Decides.{nat_tests}
use Rattle.std.proofs.Math.Seq.{take-append_seam}
use Rattle.httparse.specs.Grammar as grammar
use Rattle.httparse.proofs.GrammarLemmas.{response_unique}
use Rattle.px_head.specs.declared.TheConstants.{HEAD_LIMIT}
use Rattle.px_head.specs.declared.responses.ResponseHead.{ResponseHead}
use Rattle.px_head.specs.declared.blocks.HeadEnd.TheVariants as end
use Rattle.px_head.specs.Blocks.{head_end}
use Rattle.px_head.specs.Heads.{IsResponse, response_of}
use Rattle.px_head.proofs.BlockLemmas.{head-end-found}
use Rattle.px_head.proofs.GrammarBlocks.{response-block}
use Rattle.px_framing.specs.Body.{Body, Part, IsChunked, first_bytes, body_limit}
use Rattle.px_framing.specs.Reading.{goes_on}
use Rattle.px_framing.specs.Rules.{response_rule}
use Rattle.px_framing.specs.declared.rules.BodyRule.{BodyRule}
use Rattle.px_framing.specs.declared.rules.BodyRule.TheVariants as rule
use Rattle.px_framing.specs.declared.places.State.{State}
use Rattle.px_framing.specs.declared.places.State.TheVariants as state
use Rattle.px_framing.proofs.BodyLemmas.{body-one, whole}
use Rattle.px_answers.specs.Forms.{body_of, state_at_end}
use Rattle.px_answers.specs.Finished.{finished, by_end}
use Rattle.px_pool_ends.specs.Answers as pool
use Rattle.px_pool_ends.specs.Answers.{IsInterim, IsWholeBody, IsAnswer}
use Rattle.px_pumps.specs.Answering.{Ask, Answered, Seen, Good, Shows, ShowsBlock, ShowsRead, ReadsAsHead, seen_final, due_of, due_by}
use Rattle.px_pumps.specs.declared.dues.Due.{Due}
use Rattle.px_shared.specs.Answers.{IsFinalTo, IsAnswerTo, interim, final}

-- ---- the body

-- a chunked body that is whole is so whatever follows
chunked_over : (bytes more : List ℕ) (p : Part) → IsChunked bytes p → p.state ≡ state.Whole → IsChunked (bytes ++ more) p
chunked_over bytes more p c w =
    let same : take p.used (bytes ++ more) ≡ take p.used bytes = take-append-le p.used bytes more c.within in
    record {
      within = omega (arith, c.within, length-append bytes more);
      held = c.held;
      next = c.next;
      front = same ∙ c.front;
      elements = c.elements;
      longest = λ r d rest place a e. c.longest r d rest place a (sym same ∙ e);
      says = rw (w, same) (rw w at c.says);
      limit = c.limit;
    }

-- so many bytes that are there are there whatever follows
first_over : (n : ℕ) (s : State) (bytes more : List ℕ) → n ≤ length bytes → first_bytes n s bytes ≡ first_bytes n s (bytes ++ more)
first_over n s bytes more le =
    let now : nat_le n (length bytes) ≡ true = grind (arith, nat_tests) in
    let then_ : nat_le n (length (bytes ++ more)) ≡ true = rw (length-append bytes more) (grind (arith, nat_tests)) in
    let counts : min n (length (bytes ++ more)) ≡ min n (length bytes) = omega (arith, le, length-append bytes more) in
    rw (now, then_, counts, take-append-le n bytes more le) refl

-- so many bytes are whole only where they are there
first_whole : (n : ℕ) (s : State) (bytes : List ℕ) (p : Part) → p ≡ first_bytes n s bytes → p.state ≡ state.Whole → (n ≤ length bytes) × (s ≡ state.Whole)
first_whole n s bytes p e w = by (nat_le n (length bytes)) refl
  where
    by : (b : Bool) → nat_le n (length bytes) ≡ b → (n ≤ length bytes) × (s ≡ state.Whole)
    by true k = (grind (arith, nat_tests), sym (ap (λ (q : Part). q.state) e ∙ ap (λ b. if b then s else state.More) k) ∙ w)
    by false k = let o = sym (ap (λ (q : Part). q.state) e ∙ ap (λ b. if b then s else state.More) k) ∙ w in absurd (cc)

-- a body that is whole is so whatever follows
body_over : (r : BodyRule) (bytes more : List ℕ) (p : Part) → Body r bytes p → p.state ≡ state.Whole → Body r (bytes ++ more) p
body_over rule.Absent bytes more p b w = b
body_over (rule.Length n) bytes more p b w = b ∙ first_over n state.Whole bytes more (first_whole n state.Whole bytes p b w).0
body_over rule.Chunked bytes more p b w = chunked_over bytes more p b w
body_over rule.ToClose bytes more p b w = let o = (first_whole body_limit state.Cut bytes p b w).1 in absurd (cc)

-- what is read of a whole body is the same whatever follows
record IsOver (r : BodyRule) (rest : List ℕ) : Type 0 where
  pub whole : (body_of r rest).state ≡ state.Whole
  pub same : (more : List ℕ) → body_of r (rest ++ more) ≡ body_of r rest

over : (r : BodyRule) (rest : List ℕ) → IsWholeBody r rest → IsOver r rest
over r rest w =
    let here : w.part ≡ body_of r rest = body-one r rest w.part (body_of r rest) w.is_body (whole r rest) in
    record {
      whole = ap (λ (q : Part). q.state) (sym here) ∙ w.whole;
      same = λ more. sym (body-one r (rest ++ more) w.part (body_of r (rest ++ more)) (body_over r rest more w.part w.is_body w.whole) (whole r (rest ++ more))) ∙ here;
    }

-- a body of a response to any method, where it is whole by the rule for others than HEAD
rule_any : (head : ResponseHead) (method : List ℕ) (r : BodyRule) → response_rule head [] ≡ Ok r → (response_rule head method ≡ Ok rule.Absent) ⊎ (response_rule head method ≡ Ok r)
unfolding response_rule
rule_any head method r e = by (bytes_eq method (codes "HEAD")) refl
  where
    by : (b : Bool) → bytes_eq method (codes "HEAD") ≡ b → (response_rule head method ≡ Ok rule.Absent) ⊎ (response_rule head method ≡ Ok r)
    by true k = inl (rw k refl)
    by false k = inr (rw k e)

absent_over : (rest : List ℕ) → IsOver rule.Absent rest
unfolding goes_on
absent_over rest = record { whole = refl; same = λ more. refl }

-- ---- the heads

-- two heads that one block reads as are one
one_head : (block : List ℕ) (h k : ResponseHead) → IsResponse block h → IsResponse block k → k ≡ h
one_head block h k x y = y.parts ∙ ap response_of (sym (response_unique block x.tree y.tree [] [] x.reads y.reads).0) ∙ sym x.parts

-- a head stands whole at the front of what follows it
block_end : (block rest : List ℕ) (h : ResponseHead) → IsResponse block h → length block ≤ HEAD_LIMIT → head_end HEAD_LIMIT (block ++ rest) ≡ end.At (length block)
block_end block rest h x le = head-end-found HEAD_LIMIT block rest le (rw (x.reads.1 ∙ append-nil (grammar.print_response x.tree)) (response-block x.tree x.reads.0))

drop_seam : (block rest : List ℕ) → drop (length block) (block ++ rest) ≡ rest
drop_seam [] rest = refl
drop_seam (b ∷ bs) rest = drop_seam bs rest

-- what a block shows that reads as that head
block_shows : (n : ℕ) (method block rest : List ℕ) (head : ResponseHead) (seen : Seen) → IsResponse block head
    → ShowsRead (Shows n method) method (Some head) rest seen ↔ ShowsBlock (Shows n method) method block rest seen
block_shows n method block rest head seen x = (λ s. record { reading = Some head; reads = x; shows = s }, λ b. by b.reading b.reads b.shows)
  where
    by : (o : Option ResponseHead) → ReadsAsHead block o → ShowsRead (Shows n method) method o rest seen → ShowsRead (Shows n method) method (Some head) rest seen
    by (Some other) r s = subst (λ (k : ResponseHead). ShowsRead (Shows n method) method (Some k) rest seen) (one_head block head other x r) s
    by None r s = absurd (r head x)

-- bytes that begin with a head show what its block shows
head_shows : (n : ℕ) (method block rest : List ℕ) (head : ResponseHead) (seen : Seen) → IsResponse block head → length block ≤ HEAD_LIMIT
    → ShowsRead (Shows n method) method (Some head) rest seen ↔ Shows (suc n) method (block ++ rest) seen
head_shows n method block rest head seen x le = rw (block_end block rest head x le, take-append_seam block rest, drop_seam block rest) (block_shows n method block rest head seen x)

-- ---- answers

-- a whole answer, as a request with that method has it read, and maybe bytes behind it
data IsSettled (method : List ℕ) : ℕ → List ℕ → Type 0 where
  behind : (count : ℕ) (block rest : List ℕ) → IsInterim block → IsSettled method count rest → IsSettled method (count + 1) (block ++ rest)
  at_ : (count : ℕ) (block rest : List ℕ) (r : BodyRule) → IsFinalTo method block r → IsOver r rest → IsSettled method count (block ++ rest)

stands_to : (method : List ℕ) (n : ℕ) (bytes : List ℕ) → IsAnswerTo method n bytes → IsSettled method n bytes
stands_to method _ _ (interim count block rest i a) = behind count block rest i (stands_to method count rest a)
stands_to method _ _ (final count block rest r f w) = at_ count block rest r f (over r rest w)

-- the final head of what a pool takes for an answer, by the method of the request
final_any : (method : List ℕ) (count : ℕ) (block rest : List ℕ) (r : BodyRule) → pool.IsFinalHead block r → IsWholeBody r rest → IsSettled method count (block ++ rest)
final_any method count block rest r f w = by (rule_any f.head method r f.rule_is)
  where
    by : (response_rule f.head method ≡ Ok rule.Absent) ⊎ (response_rule f.head method ≡ Ok r) → IsSettled method count (block ++ rest)
    by (inl e) = at_ count block rest rule.Absent (record { head = f.head; reads = f.reads; within = f.within; final = f.final; same_protocol = f.same_protocol; rule_is = e }) (absent_over rest)
    by (inr e) = at_ count block rest r (record { head = f.head; reads = f.reads; within = f.within; final = f.final; same_protocol = f.same_protocol; rule_is = e }) (over r rest w)

stands_any : (method : List ℕ) (n : ℕ) (bytes : List ℕ) → IsAnswer n bytes → IsSettled method n bytes
stands_any method _ _ (pool.interim count block rest i a) = behind count block rest i (stands_any method count rest a)
stands_any method _ _ (pool.final count block rest r f w) = final_any method count block rest r f w

-- what a whole answer shows, whatever follows: one head, and a body that is whole
record ShowsOne (n : ℕ) (method bytes : List ℕ) : Type 0 where
  pub head : ResponseHead
  pub rule : BodyRule
  pub rest : List ℕ
  pub is_over : IsOver rule rest
  pub same : (more : List ℕ) (seen : Seen) → (seen ≡ Good head rule (rest ++ more)) ↔ Shows n method (bytes ++ more) seen

final_seen : (method block rest : List ℕ) (r : BodyRule) (f : IsFinalTo method block r) → seen_final method f.head rest ≡ Good f.head r rest
unfolding seen_final
final_seen method block rest r f = rw (f.same_protocol, f.rule_is) refl

shows_final : (n : ℕ) (method block rest : List ℕ) (r : BodyRule) → IsFinalTo method block r → IsOver r rest → ShowsOne (suc n) method (block ++ rest)
shows_final n method block rest r f o = record {
  head = f.head;
  rule = r;
  rest = rest;
  is_over = o;
  same = λ more seen.
      let h = head_shows n method block (rest ++ more) f.head seen f.reads f.within in
      rw (append_assoc block rest more, ← final_seen method block (rest ++ more) r f) (rw f.final at h);
}

shows_behind : (n : ℕ) (method block rest : List ℕ) → IsInterim block → ShowsOne n method rest → ShowsOne (suc n) method (block ++ rest)
shows_behind n method block rest i s = record {
  head = s.head;
  rule = s.rule;
  rest = s.rest;
  is_over = s.is_over;
  same = λ more seen.
      let h : Shows n method (rest ++ more) seen ↔ Shows (suc n) method (block ++ (rest ++ more)) seen = rw i.interim at (head_shows n method block (rest ++ more) i.head seen i.reads i.within) in
      rw (append_assoc block rest more) (λ e. h.0 ((s.same more seen).0 e), λ x. (s.same more seen).1 (h.1 x));
}

shows_one : (method : List ℕ) (n : ℕ) (bytes : List ℕ) → IsSettled method n bytes → ShowsOne (suc n) method bytes
shows_one method _ _ (behind count block rest i a) = rw add-one (shows_behind (suc count) method block rest i (shows_one method count rest a))
shows_one method _ _ (at_ count block rest r f o) = shows_final count method block rest r f o

-- ---- what is due

whole_stands : (r : BodyRule) (failed : Bool) → state_at_end r failed state.Whole ≡ state.Whole
whole_stands r true = refl
whole_stands rule.Absent false = refl
whole_stands (rule.Length n) false = refl
whole_stands rule.Chunked false = refl
whole_stands rule.ToClose false = refl

same_due : (ask : Ask) (head : ResponseHead) (r : BodyRule) (rest more : List ℕ) (failed : Bool) → IsOver r rest → due_of ask (Good head r (rest ++ more)) failed ≡ due_of ask (Good head r rest) false
same_due ask head r rest more failed o =
    let f = ask.framed head r in
    let p = body_of r rest in
    let ends : state_at_end f.rule failed p.state ≡ state_at_end f.rule false p.state = rw o.whole (whole_stands f.rule failed ∙ sym (whole_stands f.rule false)) in
    ap (λ (q : Part). due_by (finished ask.work f q failed)) (o.same more) ∙ ap (λ s. due_by (by_end ask.work f p.raw p.plain s)) ends

-- what is due for a whole answer and what follows it
due_to : (ask : Ask) (bytes more : List ℕ) (failed : Bool) (due : Due) (s : ShowsOne 9 ask.method bytes) → Answered ask (bytes ++ more) failed due → due ≡ due_of ask (Good s.head s.rule s.rest) false
due_to ask bytes more failed due s a = a.due_is ∙ ap (λ seen. due_of ask seen failed) ((s.same more a.seen).1 a.shows) ∙ same_due ask s.head s.rule s.rest more failed s.is_over

due_from : (ask : Ask) (bytes more : List ℕ) (failed : Bool) (due : Due) (s : ShowsOne 9 ask.method bytes) → due ≡ due_of ask (Good s.head s.rule s.rest) false → Answered ask (bytes ++ more) failed due
due_from ask bytes more failed due s e = record {
  seen = Good s.head s.rule (s.rest ++ more);
  shows = (s.same more (Good s.head s.rule (s.rest ++ more))).0 refl;
  due_is = e ∙ sym (same_due ask s.head s.rule s.rest more failed s.is_over);
}

same_answered : (ask : Ask) (bytes more : List ℕ) (failed : Bool) (due : Due) → IsSettled ask.method 8 bytes → Answered ask (bytes ++ more) failed due ↔ Answered ask bytes false due
same_answered ask bytes more failed due a =
    let s = shows_one ask.method 8 bytes a in (
      λ x. rw (append-nil bytes) at (due_from ask bytes [] false due s (due_to ask bytes more failed due s x)),
      λ x. due_from ask bytes more failed due s (due_to ask bytes [] false due s (rw (append-nil bytes) x)),
    )

pub answered_to : (ask : Ask) (answer more : List ℕ) (failed : Bool) (due : Due) → IsAnswerTo ask.method 8 answer → Answered ask (answer ++ more) failed due ↔ Answered ask answer false due
answered_to ask answer more failed due a = same_answered ask answer more failed due (stands_to ask.method 8 answer a)

pub answered_any : (ask : Ask) (answer more : List ℕ) (failed : Bool) (due : Due) → IsAnswer 8 answer → Answered ask (answer ++ more) failed due ↔ Answered ask answer false due
answered_any ask answer more failed due a = same_answered ask answer more failed due (stands_any ask.method 8 answer a)
