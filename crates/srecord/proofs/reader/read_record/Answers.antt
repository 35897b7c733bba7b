use Rattle.std.proofs.Common.{◌≡◌, ◌≤◌, eqb, leb, length, get_or, drop, sym, ap, ◌∙◌, rules, arith}
use Rattle.std.proofs.lemmas.List.{take_rest}
use Rattle.std.proofs.lemmas.Bool.{cond-true, and_from, le-leb, eq-eqb}
use Rattle.srecord.specs.Reader.{record_of_digits, record_of_kind}
use Rattle.srecord.proofs.reader.read_record.Goals as goal

pub returns-in_ok-try_from-in-83 : goal.returns-in_ok-try_from-in-83
returns-in_ok-try_from-in-83 c =
    let line = c.args.line.now in
    let long : 10 ≤ length line = omega arith in
    let letter : get_or line 0 0 ≡ 83 = search rules in
    let begins = and_from (leb 10 (length line)) (eqb (get_or line 0 0) 83) (le-leb 10 (length line) long) (eq-eqb (get_or line 0 0) 83 letter) in
    let rest = ap (record_of_digits c.in_ok-try_from-in-83.field-0) (take_rest line 2) in
    let kind = ap (λ k. record_of_kind k (drop 2 line)) c.in_ok-try_from-in-83.ensures in
    c.read_digits.ensures ∙ (rest ∙ (kind ∙ sym (cond-true _ _ _ begins)))
