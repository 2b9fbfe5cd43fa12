use Rattle.std.proofs.Common.{◌∙◌, sym, ℕ, ◌+◌}
use Rattle.std.specs.Prelude.{position}
use Rattle.std.specs.Str.{bytes_eq}
use Rattle.rx_classes.specs.Natives.{native_names}
use Rattle.rx_install.proofs.NameLemmas.{is_some-option_map, is_some-position}
use Rattle.rx_install.proofs.installed.is_native.Goals as goal

pub returns : goal.returns
returns c =
    c.is_among.ensures
    ∙ sym (is_some-position (bytes_eq c.args.name.now) native_names)
    ∙ sym (is_some-option_map (λ (place : ℕ). place + 2) (position (bytes_eq c.args.name.now) native_names))
