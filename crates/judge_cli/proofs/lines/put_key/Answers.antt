use Rattle.std.proofs.Common.{◌≡◌, ◌++◌, ℕ, codes, decimal, subst}
use Rattle.import_lines.proofs.Tells.{puts-then}
use Rattle.judge_cli.specs.Lines.{address_text}
use Rattle.judge_cli.proofs.lines.put_key.Goals as goal

pub returns : goal.returns
returns c =
    let key = c.args.key.now in
    let src = address_text c.args.version key.src in
    let dst = address_text c.args.version key.dst in
    let proto = codes " " ++ decimal key.proto in
    let sport = codes " " ++ decimal key.sport in
    let dport = codes " " ++ decimal key.dport in
    let one = c.put_address.new.into.items in
    let space = c.put_bytes.new.into.items in
    let two = c.put_address-2.new.into.items in
    let three = c.put_more.new.into.items in
    let four = c.put_more-2.new.into.items in
    let all = c.put_more-3.new.into.items in
    puts-then c.args.into.now.items one all src (codes " " ++ (dst ++ (proto ++ (sport ++ dport)))) c.in_ok-put_address.ensures
    (puts-then one space all (codes " ") (dst ++ (proto ++ (sport ++ dport))) c.in_ok-put_bytes.ensures
    (puts-then space two all dst (proto ++ (sport ++ dport)) c.in_ok-put_address-2.ensures
    (puts-then two three all proto (sport ++ dport) (subst (λ (n : ℕ). three ≡ two ++ (codes " " ++ decimal n)) c.from.ensures c.in_ok-put_more.ensures)
    (puts-then three four all sport dport (subst (λ (n : ℕ). four ≡ three ++ (codes " " ++ decimal n)) c.from-2.ensures c.in_ok-put_more-2.ensures)
    (subst (λ (n : ℕ). all ≡ four ++ (codes " " ++ decimal n)) c.from-3.ensures c.in_ok-put_more-3.ensures)))))
