use Rattle.std.proofs.Common.{ℕ, List, ◌≡◌, ◌≤◌, ◌++◌, ◌∙◌, true, sym, subst, ap, take, drop, length, encode_utf8, take-append-drop, length-drop, length-take-le, arith}
use Rattle.std.proofs.Math.Seq.{take-add}
use Rattle.std.proofs.lemmas.List.{take_rest}
use Rattle.unicode_ident.specs.Ident.{is_xid_continue}
use Rattle.identifiers.specs.Identifiers.{begins_identifier, is_identifier, longest, NothingContinues}
use Rattle.identifiers.proofs.Spelling.{ends, none, one_more, one_character, same_front}
use Rattle.identifiers.proofs.names.identifier_len.Goals as goal

-- all that could begin the bytes is the character that does
only_front : (bytes : List ℕ) (n : ℕ) (c : ℕ) → take n bytes ≡ encode_utf8 c → (d : ℕ) (rest : List ℕ) → bytes ≡ encode_utf8 d ++ rest → d ≡ c
only_front bytes n c front d rest e =
    same_front bytes (drop n bytes) rest c d (sym (take-append-drop n bytes) ∙ ap (λ l. l ++ drop n bytes) front) e

-- the longest identifier is what has been read, where nothing goes on
ended : (bytes rest : List ℕ) (len : ℕ) → len ≤ length bytes → is_identifier (take len bytes) ≡ true → rest ≡ drop len bytes → NothingContinues rest → len ≡ longest is_identifier bytes
ended bytes rest len within read is stops =
    sym (ap (longest is_identifier) (sym (take-append-drop len bytes)) ∙ ends (take len bytes) (drop len bytes) read (subst NothingContinues is stops) ∙ length-take-le len bytes within)

pub returns-in_default-clause-longest : goal.returns-in_default-clause-longest
returns-in_default-clause-longest c =
    sym (none c.args.bytes.now (λ d rest scalar e. absurd (c.in_default.ensures d rest scalar e)))

pub returns-then-not-begins-clause-longest : goal.returns-then-not-begins-clause-longest
returns-then-not-begins-clause-longest c =
    sym (none c.args.bytes.now (λ d rest scalar e.
    ap begins_identifier (only_front c.args.bytes.now c.in-Some.len c.in-Some.first c.in-Some.ensures.1 d rest e) ∙ sym c.begins.ensures ∙ c.if-not-begins.true))

pub loop-next-init : goal.loop-next-init
loop-next-init c = record {
  within = c.in-Some.ensures.3;
  read = ap is_identifier c.in-Some.ensures.1 ∙ one_character c.in-Some.first c.in-Some.ensures.0 (sym c.begins.ensures ∙ c.if-not-begins.false);
}

pub loop-next-preserved : goal.loop-next-preserved
loop-next-preserved c =
    let rest = take_rest c.args.bytes.now c.loop-next.len in
    let found = c.in-Some-first_character.ensures in
    let next : take c.in-Some-first_character.more (drop c.loop-next.len c.args.bytes.now) ≡ encode_utf8 c.in-Some-first_character.next = subst (λ l. take c.in-Some-first_character.more l ≡ encode_utf8 c.in-Some-first_character.next) rest found.1 in
    let front = take-add c.loop-next.len c.in-Some-first_character.more c.args.bytes.now ∙ ap (λ l. take c.loop-next.len c.args.bytes.now ++ l) next in
    record {
      within = omega (arith, c.loop-next.invariant.within, found.3, ap length rest, length-drop c.loop-next.len c.args.bytes.now);
      read = ap is_identifier front ∙ one_more (take c.loop-next.len c.args.bytes.now) c.in-Some-first_character.next c.loop-next.invariant.read found.0 (sym c.continues.ensures ∙ c.if-not-continues.false);
    }

pub returns-then-not-continues-clause-longest : goal.returns-then-not-continues-clause-longest
returns-then-not-continues-clause-longest c =
    let found = c.in-Some-first_character.ensures in
    ended c.args.bytes.now _ c.loop-next.len c.loop-next.invariant.within c.loop-next.invariant.read (take_rest c.args.bytes.now c.loop-next.len)
    (λ d rest scalar e. ap is_xid_continue (only_front _ c.in-Some-first_character.more c.in-Some-first_character.next found.1 d rest e) ∙ sym c.continues.ensures ∙ c.if-not-continues.true)

pub returns-in_default-first_character-clause-longest : goal.returns-in_default-first_character-clause-longest
returns-in_default-first_character-clause-longest c =
    ended c.args.bytes.now _ c.loop-next.len c.loop-next.invariant.within c.loop-next.invariant.read (take_rest c.args.bytes.now c.loop-next.len)
    (λ d rest scalar e. absurd (c.in_default-first_character.ensures d rest scalar e))
