use Rattle.std.proofs.Common.{◌≡◌, ◌^◌, ◌<◌, drop}
use Rattle.std.specs.List.{list_all}
use Rattle.text_fields.specs.Fields.{digit, value_after}
use Rattle.text_fields.proofs.decimal.Given as goal

abbrev pub invariant-loop-byte : goal.invariant-loop-byte
invariant-loop-byte l =
    (value_after 0 l.text ≡ value_after l.value (drop l.byte-index l.text))
    × (list_all digit l.text ≡ list_all digit (drop l.byte-index l.text))
    × (l.value < 10 ^ l.byte-index)
