use Rattle.std.proofs.Common.{refl}
use Rattle.import_cli.proofs.Carried.{carries-routes, carries-events, carries-json, carries-list, carries-frames, carries-ruleset, carries-save}
use Rattle.import_cli.proofs.top.carry_import.Goals as goal

pub returns-in-IpRoutes-clause-job : goal.returns-in-IpRoutes-clause-job
returns-in-IpRoutes-clause-job g c =
    let by = c.import.ensures.imports in
    (by.0, by.1, λ which. carries-routes _ _ _ _ _ _ _ _ _ c.in-IpRoutes.is c.new-routes.ensures (by.2 which))

pub returns-in-IpMonitor-clause-job : goal.returns-in-IpMonitor-clause-job
returns-in-IpMonitor-clause-job g c =
    let by = c.import-in-IpMonitor.ensures.imports in
    (by.0, by.1, λ which. carries-events _ _ _ _ _ _ _ _ _ c.in-IpMonitor.is c.new-events.ensures (by.2 which))

pub returns-in-IpJson-clause-job : goal.returns-in-IpJson-clause-job
returns-in-IpJson-clause-job g c =
    let by = c.import_json.ensures.imports in
    (by.0, by.1, λ which. carries-json _ _ _ _ _ _ _ _ c.in-IpJson.is (by.2 which))

pub returns-in-Cisco-clause-job : goal.returns-in-Cisco-clause-job
returns-in-Cisco-clause-job g c =
    let by = c.import_named.ensures.job in
    (by.0, by.1, λ which. carries-list _ _ _ _ _ _ _ _ _ c.in-Cisco.is (by.2 which))

pub returns-in-Fpm-clause-job : goal.returns-in-Fpm-clause-job
returns-in-Fpm-clause-job g c =
    let by = c.import_frames.ensures.imports in
    (by.0, by.1, λ which. carries-frames _ _ _ _ _ _ _ _ _ c.in-Fpm.is c.new-messages.ensures (by.2 which))

pub returns-in-Iptables-clause-job : goal.returns-in-Iptables-clause-job
returns-in-Iptables-clause-job g c =
    let by = c.import_save.ensures.job in
    (by.0, by.1, λ which. carries-save _ _ _ _ _ c.args.older.now _ _ _ _ c.in-Iptables.is (by.2 which))

pub returns-in-Nft-clause-job : goal.returns-in-Nft-clause-job
returns-in-Nft-clause-job g c =
    let by = c.import_chain.ensures.job in
    (by.0, by.1, λ which. carries-ruleset _ _ _ _ _ c.args.older.now _ _ _ _ c.in-Nft.is refl (by.2 which))
